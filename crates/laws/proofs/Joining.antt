-- The chains of orders: joined they are the orders, each is finished but the last, and nothing else is so.
use Rattle.std.proofs.Common.{◌≡◌, ℕ, Bool, true, false, cond, ◌⊎◌, inl, inr, ⊎_elim, List, [], ◌∷◌, ◌++◌, sym, refl, ap, ◌∙◌, subst, arith, append_assoc}
use Rattle.std.specs.List.{AllByRecursion as All}
use Rattle.std.proofs.lemmas.List.{append-nil}
use Rattle.meaning.specs.declared.order.Order.{Order}
use Rattle.meaning.specs.Batches.{joins, chains}
use Rattle.laws.specs.Chains.{Finished, Unfinished, orders_of, AreChains, FallIntoChains}

-- each is finished, but the last one perhaps not
abbrev pub Ended : List (List Order) → Type 0
Ended [] = Unit {0}
Ended (c ∷ []) = Finished c ⊎ Unfinished c
Ended (c ∷ (d ∷ cs)) = Finished c × Ended (d ∷ cs)

-- Such lists are the chains of their orders.

marked_joins : (front : List Order) (o : Order) (os : List Order) → All (λ p. p.linked ≡ true) front → o.linked ≡ false → chains (front ++ o ∷ os) ≡ (front ++ o ∷ []) ∷ chains os
marked_joins [] o os h e = ap (λ b. cond b (joins o (chains os)) ((o ∷ []) ∷ chains os)) e
marked_joins (p ∷ front) o os h e =
    let ps = front ++ o ∷ os in
    ap (λ b. cond b (joins p (chains ps)) ((p ∷ []) ∷ chains ps)) h.0 ∙ ap (joins p) (marked_joins front o os h.1 e)

finished_joins : (c os : List Order) → Finished c → chains (c ++ os) ≡ c ∷ chains os
finished_joins c os F =
    ap (λ x. chains (x ++ os)) F.is ∙ (ap chains (append_assoc F.front (F.end ∷ []) os) ∙ (marked_joins F.front F.end os F.marked F.unmarked ∙ ap (λ x. x ∷ chains os) (sym F.is)))

open_joins : (o : Order) (os : List Order) → All (λ p. p.linked ≡ true) (o ∷ os) → chains (o ∷ os) ≡ (o ∷ os) ∷ []
open_joins o [] h = ap (λ b. cond b (joins o []) ((o ∷ []) ∷ [])) h.0
open_joins o (p ∷ os) h =
    ap (λ b. cond b (joins o (chains (p ∷ os))) ((o ∷ []) ∷ chains (p ∷ os))) h.0 ∙ ap (joins o) (open_joins p os h.1)

unfinished_joins : (c : List Order) → Unfinished c → chains c ≡ c ∷ []
unfinished_joins [] U = absurd (omega (arith, U.some))
unfinished_joins (o ∷ os) U = open_joins o os U.marked

pub chains_of : (cs : List (List Order)) → Ended cs → chains (orders_of cs) ≡ cs
chains_of [] h = refl
chains_of (c ∷ []) h =
    ap chains (append-nil c) ∙ ⊎_elim (λ F. ap chains (sym (append-nil c)) ∙ finished_joins c [] F) (λ U. unfinished_joins c U) h
chains_of (c ∷ (d ∷ cs)) h = finished_joins c (orders_of (d ∷ cs)) h.0 ∙ ap (λ x. c ∷ x) (chains_of (d ∷ cs) h.1)

-- The chains of orders are such lists.

pub joined : (os : List Order) → orders_of (chains os) ≡ os
joined [] = refl
joined (o ∷ os) = go o.linked (joined os)
  where
    in_front : (cs : List (List Order)) → orders_of (joins o cs) ≡ o ∷ orders_of cs
    in_front [] = refl
    in_front (c ∷ cs) = refl

    go : (b : Bool) → orders_of (chains os) ≡ os → orders_of (cond b (joins o (chains os)) ((o ∷ []) ∷ chains os)) ≡ o ∷ os
    go true e = in_front (chains os) ∙ ap (λ x. o ∷ x) e
    go false e = ap (λ x. o ∷ x) e

longer : (o : Order) (c : List Order) → o.linked ≡ true → Finished c → Finished (o ∷ c)
longer o c l F = record { front = o ∷ F.front; end = F.end; is = ap (λ x. o ∷ x) F.is; marked = (l, F.marked); unmarked = F.unmarked }

still_open : (o : Order) (c : List Order) → o.linked ≡ true → Unfinished c → Unfinished (o ∷ c)
still_open o c l U = record { some = omega arith; marked = (l, U.marked) }

alone : (o : Order) → o.linked ≡ false → Finished (o ∷ [])
alone o l = record { front = []; end = o; is = refl; marked = tt; unmarked = l }

joins_ended : (o : Order) (cs : List (List Order)) → o.linked ≡ true → Ended cs → Ended (joins o cs)
joins_ended o [] l h = inr (record { some = omega arith; marked = (l, tt) })
joins_ended o (c ∷ []) l h = ⊎_elim (λ F. inl (longer o c l F)) (λ U. inr (still_open o c l U)) h
joins_ended o (c ∷ (d ∷ cs)) l h = (longer o c l h.0, h.1)

starts_ended : (o : Order) (cs : List (List Order)) → o.linked ≡ false → Ended cs → Ended ((o ∷ []) ∷ cs)
starts_ended o [] l h = inl (alone o l)
starts_ended o (c ∷ cs) l h = (alone o l, h)

pub ended : (os : List Order) → Ended (chains os)
ended [] = tt
ended (o ∷ os) = go o.linked refl (ended os)
  where
    go : (b : Bool) → o.linked ≡ b → Ended (chains os) → Ended (cond b (joins o (chains os)) ((o ∷ []) ∷ chains os))
    go true l h = joins_ended o (chains os) l h
    go false l h = starts_ended o (chains os) l h

-- The same by places.

pub at_place : (before after : List (List Order)) (c : List Order) → Ended (before ++ c ∷ after) → Finished c ⊎ (Unfinished c × (after ≡ []))
at_place [] [] c h = ⊎_elim inl (λ U. inr (U, refl)) h
at_place [] (d ∷ after) c h = inl h.0
at_place (b ∷ []) after c h = at_place [] after c h.1
at_place (b ∷ (d ∷ before)) after c h = at_place (d ∷ before) after c h.1

from_places : (cs : List (List Order)) → ((before after : List (List Order)) (c : List Order) → cs ≡ before ++ c ∷ after → Finished c ⊎ (Unfinished c × (after ≡ []))) → Ended cs
from_places [] h = tt
from_places (c ∷ []) h = ⊎_elim inl (λ U. inr U.0) (h [] [] c refl)
from_places (c ∷ (d ∷ cs)) h =
    let no : (d ∷ cs ≡ []) → ⊥ = λ e. let z : ◌≡◌ {A = ℕ} 0 1 = cc in omega arith in
    (⊎_elim (λ F. F) (λ U. absurd (no U.1)) (h [] (d ∷ cs) c refl), from_places (d ∷ cs) (λ before after x e. h (c ∷ before) after x (ap (λ y. c ∷ y) e)))

pub fall : (os : List Order) → FallIntoChains os
fall os cs = (
  λ A. sym (sym (ap chains A.joined) ∙ chains_of cs (from_places cs A.each)),
  λ e. subst (AreChains os) (sym e) (record {
    joined = joined os;
    each = λ before after c s. at_place before after c (subst Ended s (ended os));
  }),
)
