-- Taking a key out of a row that is in order.
use Rattle.std.proofs.Common.{◌≡◌, Bool, true, false, cond, List, [], ◌∷◌, sym, refl, ap, ◌∙◌, subst}
use Rattle.std.specs.List.{AllByRecursion as All}
use Rattle.std.proofs.lemmas.Bool.{or_parts}
use Rattle.meaning.specs.Basics.{put, in_order}
use Rattle.ordered.specs.Rows.{apart, Ordered, without}
use Rattle.ordered.specs.Laws.{LawfulOrder}
use Rattle.ordered.proofs.Orderly.{none_sooner, put_first}
use Rattle.ordered.proofs.Inserts.{in_order_ordered}

module _ {K : Type 0} (before : K → K → Bool) (law : LawfulOrder before) where
  pub not_apart : (x y : K) → apart before x y ≡ false → x ≡ y
  not_apart x y e = let h = or_parts (before x y) (before y x) e in law.total x y h.0 h.1

  with_itself : (k : K) → apart before k k ≡ false
  with_itself k = rw (law.irreflexive k)

  pub without_none : (k : K) (xs : List K) → All (λ x. apart before k x ≡ true) xs → without before k xs ≡ xs
  without_none k [] h = refl
  without_none k (x ∷ xs) h = rw h.0 (ap (λ ys. x ∷ ys) (without_none k xs h.1))

  -- what was put in comes out again
  pub without_put_fresh : (k : K) (xs : List K) → All (λ x. apart before k x ≡ true) xs → without before k (put before k xs) ≡ xs
  without_put_fresh k [] h = rw (law.irreflexive k)
  without_put_fresh k (x ∷ xs) h =
      let r = without_put_fresh k xs h.1 in
      elim (before k x) as (λ b. without before k (cond b (k ∷ (x ∷ xs)) (x ∷ put before k xs)) ≡ x ∷ xs) [ true ↦ rw (with_itself k) | false ↦ rw h.0 (ap (λ ys. x ∷ ys) r) ]

  pub without-put : (k : K) (xs : List K) → Ordered before xs → without before k (put before k xs) ≡ xs
  without-put k [] h = rw (law.irreflexive k)
  without-put k (x ∷ xs) h = go (before k x) (apart before k x) refl refl (without-put k xs h.1)
    where
      go : (p q : Bool) → before k x ≡ p → apart before k x ≡ q → without before k (put before k xs) ≡ xs → without before k (cond p (k ∷ (x ∷ xs)) (x ∷ put before k xs)) ≡ x ∷ xs
      go true q e f r = rw (with_itself k)
      go false true e f r = rw f (ap (λ ys. x ∷ ys) r)
      go false false e f r =
          let same : k ≡ x = not_apart k x f in
          let P : K → Type 0 = λ k. put before k xs ≡ x ∷ xs in
          rw f (subst P (sym same) (put_first before law x xs h.0))

  -- another key may go in before or after
  pub without_put_other : (j k : K) (xs : List K) → apart before k j ≡ true → Ordered before xs → without before k (put before j xs) ≡ put before j (without before k xs)
  without_put_other j k [] d h = rw d
  without_put_other j k (x ∷ xs) d h = go (before j x) (apart before k x) refl refl (without_put_other j k xs d h.1)
    where
      go : (p q : Bool) → before j x ≡ p → apart before k x ≡ q → without before k (put before j xs) ≡ put before j (without before k xs) → without before k (cond p (j ∷ (x ∷ xs)) (x ∷ put before j xs)) ≡ put before j (cond q (x ∷ without before k xs) xs)
      go true true e f r = rw (d, f, e)
      go true false e f r = rw (d, f) (sym (put_first before law j xs (none_sooner before law j x xs e h.0)))
      go false true e f r = rw (f, e) (ap (λ ys. x ∷ ys) r)
      go false false e f r = rw f

  pub without-in_order : (k : K) (xs : List K) → without before k (in_order before xs) ≡ in_order before (without before k xs)
  without-in_order k [] = refl
  without-in_order k (x ∷ xs) = go (apart before k x) refl (without-in_order k xs)
    where
      sorted : Ordered before (in_order before xs)
      sorted = in_order_ordered before law xs

      go : (b : Bool) → apart before k x ≡ b → without before k (in_order before xs) ≡ in_order before (without before k xs) → without before k (put before x (in_order before xs)) ≡ in_order before (cond b (x ∷ without before k xs) xs)
      go true e r = without_put_other x k (in_order before xs) e sorted ∙ ap (put before x) r
      go false e r =
          let P : K → Type 0 = λ x. without before k (put before x (in_order before xs)) ≡ in_order before xs in
          subst P (not_apart k x e) (without-put k (in_order before xs) sorted)
