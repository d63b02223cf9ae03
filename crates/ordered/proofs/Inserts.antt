-- Putting keys in keeps the order, and their order of arrival does not matter.
use Rattle.std.proofs.Common.{◌≡◌, Bool, true, false, cond, List, [], ◌∷◌, ◌++◌, refl, ap, ◌∙◌}
use Rattle.std.proofs.lemmas.Bool.{both_ways}
use Rattle.meaning.specs.Basics.{put, in_order}
use Rattle.ordered.specs.Rows.{Ordered}
use Rattle.ordered.specs.Laws.{LawfulOrder}
use Rattle.ordered.proofs.Orderly.{all_put, no_sooner, one_way, none_sooner}

module _ {K : Type 0} (before : K → K → Bool) (law : LawfulOrder before) where
  pub put_ordered : (k : K) (xs : List K) → Ordered before xs → Ordered before (put before k xs)
  put_ordered k [] h = (tt, tt)
  put_ordered k (x ∷ xs) h = go (before k x) refl (put_ordered k xs h.1)
    where
      go : (b : Bool) → before k x ≡ b → Ordered before (put before k xs) → Ordered before (cond b (k ∷ (x ∷ xs)) (x ∷ put before k xs))
      go true e r = ((one_way before law k x e, none_sooner before law k x xs e h.0), h)
      go false e r = (all_put before (λ y. before y x ≡ false) k xs e h.0, r)

  pub in_order_ordered : (xs : List K) → Ordered before (in_order before xs)
  in_order_ordered [] = tt
  in_order_ordered (x ∷ xs) = put_ordered x (in_order before xs) (in_order_ordered xs)

  pair : (j k : K) (xs : List K) → cond (before j k) (j ∷ (k ∷ xs)) (k ∷ (j ∷ xs)) ≡ cond (before k j) (k ∷ (j ∷ xs)) (j ∷ (k ∷ xs))
  pair j k xs = go (before j k) (before k j) refl refl
    where
      go : (p q : Bool) → before j k ≡ p → before k j ≡ q → cond p (j ∷ (k ∷ xs)) (k ∷ (j ∷ xs)) ≡ cond q (k ∷ (j ∷ xs)) (j ∷ (k ∷ xs))
      go true true e f = absurd (both_ways (before k j) (one_way before law j k e) f)
      go true false e f = refl
      go false true e f = refl
      go false false e f = let same : j ≡ k = law.total j k e f in cc

  pub put-put : (j k : K) (xs : List K) → put before j (put before k xs) ≡ put before k (put before j xs)
  put-put j k [] = pair j k []
  put-put j k (x ∷ xs) = go (before j x) (before k x) refl refl (put-put j k xs)
    where
      go : (p q : Bool) → before j x ≡ p → before k x ≡ q → put before j (put before k xs) ≡ put before k (put before j xs) → put before j (cond q (k ∷ (x ∷ xs)) (x ∷ put before k xs)) ≡ put before k (cond p (j ∷ (x ∷ xs)) (x ∷ put before j xs))
      go true true e f r = rw (e, f) (pair j k (x ∷ xs))
      go true false e f r = let n = no_sooner before law j k x e f in rw (e, f, n)
      go false true e f r = let n = no_sooner before law k j x f e in rw (e, f, n)
      go false false e f r = rw (e, f) (ap (λ ys. x ∷ ys) r)

  pub in_order_push : (k : K) (xs : List K) → in_order before (xs ++ k ∷ []) ≡ put before k (in_order before xs)
  in_order_push k [] = refl
  in_order_push k (x ∷ xs) = ap (put before x) (in_order_push k xs) ∙ put-put x k (in_order before xs)
