-- Where a list of orders is cut into chains.
use Rattle.std.proofs.Common.{◌≡◌, ℕ, zero, suc, ◌<◌, true, false, cond, List, [], ◌∷◌, length, get_or, take, drop, refl, ap, ◌∙◌, arith}
use Rattle.std.specs.List.{AllByRecursion as All}
use Rattle.meaning.specs.declared.order.Order.{Order}
use Rattle.meaning.specs.Batches.{joins, chains, unfinished}
use Rattle.laws.specs.Steps.{Fronted}

abbrev pub Linked : Order → Type 0
Linked o = o.linked ≡ true

-- after k orders with the mark, the first without it ends a chain
pub chains_split : (k : ℕ) (os : List Order) (d : Order) → All Linked (take k os) → k < length os → (get_or os k d).linked ≡ false → chains os ≡ take (suc k) os ∷ chains (drop (suc k) os)
chains_split zero [] d h lt e = absurd (omega arith)
chains_split zero (o ∷ os) d h lt e = ap (λ b. cond b (joins o (chains os)) ((o ∷ []) ∷ chains os)) e
chains_split (suc k) [] d h lt e = absurd (omega arith)
chains_split (suc k) (o ∷ os) d h lt e =
    ap (λ b. cond b (joins o (chains os)) ((o ∷ []) ∷ chains os)) h.0 ∙ ap (joins o) (chains_split k os d h.1 (omega arith) e)

pub front_fronted : (k : ℕ) (os : List Order) → All Linked (take k os) → Fronted (take (suc k) os)
front_fronted zero [] h = tt
front_fronted zero (o ∷ os) h = tt
front_fronted (suc k) [] h = tt
front_fronted (suc k) (o ∷ []) h = tt
front_fronted (suc k) (o ∷ (p ∷ os)) h = (h.0, front_fronted k (p ∷ os) h.1)

pub front_finished : (k : ℕ) (os : List Order) (d : Order) → k < length os → (get_or os k d).linked ≡ false → unfinished (take (suc k) os) ≡ false
front_finished zero [] d lt e = refl
front_finished zero (o ∷ os) d lt e = e
front_finished (suc k) [] d lt e = absurd (omega arith)
front_finished (suc k) (o ∷ []) d lt e = absurd (omega arith)
front_finished (suc k) (o ∷ (p ∷ os)) d lt e = front_finished k (p ∷ os) d (omega arith) e

-- orders that all have the mark are one unfinished chain
pub one_chain : (o : Order) (os : List Order) → All Linked (o ∷ os) → chains (o ∷ os) ≡ (o ∷ os) ∷ []
one_chain o [] h = ap (λ b. cond b (joins o []) ((o ∷ []) ∷ [])) h.0
one_chain o (p ∷ os) h = ap (λ b. cond b (joins o (chains (p ∷ os))) ((o ∷ []) ∷ chains (p ∷ os))) h.0 ∙ ap (joins o) (one_chain p os h.1)

pub all_unfinished : (o : Order) (os : List Order) → All Linked (o ∷ os) → unfinished (o ∷ os) ≡ true
all_unfinished o [] h = h.0
all_unfinished o (p ∷ os) h = all_unfinished p os h.1
