-- The orders of a batch, one after another.
use Rattle.std.proofs.Common.{◌≡◌, ℕ, suc, Bool, true, false, cond, List, [], ◌∷◌, ◌++◌, length, take, drop, Ok, Err, Result, refl, ap, sym, ◌∙◌}
use Rattle.std.specs.Prelude.{nat_le}
use Rattle.std.proofs.lemmas.List.{append_assoc}
use Rattle.meaning.specs.declared.order.Order.{Order}
use Rattle.scripts.specs.declared.bad.Bad.{Bad}
use Rattle.scripts.specs.declared.bad.Bad.TheVariants.{Cut}
use Rattle.scripts.specs.Forms.{then_do, with_next, order_of, orders_at}
use Rattle.scripts.specs.Readers.{behind}

-- what is left where the next n bytes were read
pub behind_read : {X : Type 0} (n : ℕ) (bs : List ℕ) (f : List ℕ → Result X Bad) {x : X} → with_next n bs f ≡ Ok x → behind n bs ≡ drop n bs
behind_read n bs f {x} = go (nat_le n (length bs))
  where
    go : (b : Bool) → cond b (f (take n bs)) (Err Cut) ≡ Ok x → cond b (drop n bs) bs ≡ drop n bs
    go true is = refl
    go false is = absurd (cc is)

-- those that were read, before those that are still to be read
abbrev pub before : List Order → Result (List Order × List ℕ) Bad → Result (List Order × List ℕ) Bad
before xs r = then_do r (λ r. Ok (xs ++ r.0, r.1))

before_one : (xs : List Order) (o : Order) (r : Result (List Order × List ℕ) Bad) → before (xs ++ o ∷ []) r ≡ before xs (then_do r (λ r. Ok (o ∷ r.0, r.1)))
before_one xs o (Ok r) = ap (λ ys. Ok (ys, r.1)) (append_assoc xs (o ∷ []) r.0)
before_one xs o (Err b) = refl

-- what the next one adds
abbrev with_more : List Order → ℕ → List ℕ → Result Order Bad → Result (List Order × List ℕ) Bad
with_more xs k bs r = before xs (then_do r (λ o. then_do (orders_at k (drop 26 bs)) (λ r. Ok (o ∷ r.0, r.1))))

pub one_more : (xs : List Order) (o : Order) (k : ℕ) (bs : List ℕ) → with_next 26 bs order_of ≡ Ok o → before (xs ++ o ∷ []) (orders_at k (behind 26 bs)) ≡ before xs (orders_at (suc k) bs)
one_more xs o k bs is = ap (λ rest. before (xs ++ o ∷ []) (orders_at k rest)) (behind_read 26 bs order_of is) ∙ before_one xs o (orders_at k (drop 26 bs)) ∙ ap (with_more xs k bs) (sym is)

pub cut_short : (xs : List Order) (b : Bad) (k : ℕ) (bs : List ℕ) → with_next 26 bs order_of ≡ Err b → Err b ≡ before xs (orders_at (suc k) bs)
cut_short xs b k bs is = ap (with_more xs k bs) (sym is)
