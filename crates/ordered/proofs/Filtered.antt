-- A test on keys, asked before the ordering or after it.
use Rattle.std.proofs.Common.{◌≡◌, Bool, true, false, cond, List, [], ◌∷◌, sym, refl, ap, ◌∙◌}
use Rattle.std.specs.List.{filter}
use Rattle.meaning.specs.Basics.{put, in_order}
use Rattle.ordered.specs.Rows.{Ordered}
use Rattle.ordered.specs.Laws.{LawfulOrder}
use Rattle.ordered.proofs.Orderly.{all_filtered, none_sooner, put_first}
use Rattle.ordered.proofs.Inserts.{in_order_ordered}

module _ {K : Type 0} (before : K → K → Bool) (p : K → Bool) where
  pub filter-put-failing : (k : K) (xs : List K) → p k ≡ false → filter p (put before k xs) ≡ filter p xs
  filter-put-failing k [] e = rw e
  filter-put-failing k (x ∷ xs) e =
      let r = filter-put-failing k xs e in
      elim (before k x) as (λ b. filter p (cond b (k ∷ (x ∷ xs)) (x ∷ put before k xs)) ≡ filter p (x ∷ xs)) [ true ↦ rw e | false ↦ rw r ]

  module _ (law : LawfulOrder before) where
    pub filter-put : (k : K) (xs : List K) → p k ≡ true → Ordered before xs → filter p (put before k xs) ≡ put before k (filter p xs)
    filter-put k [] e h = rw e
    filter-put k (x ∷ xs) e h = go (before k x) (p x) refl refl (filter-put k xs e h.1)
      where
        go : (b q : Bool) → before k x ≡ b → p x ≡ q → filter p (put before k xs) ≡ put before k (filter p xs) → filter p (cond b (k ∷ (x ∷ xs)) (x ∷ put before k xs)) ≡ put before k (cond q (x ∷ filter p xs) (filter p xs))
        go true true d f r = rw (e, f, d)
        go true false d f r = rw (e, f) (sym (put_first before law k (filter p xs) (all_filtered before _ p xs (none_sooner before law k x xs d h.0))))
        go false true d f r = rw (f, d) (ap (λ ys. x ∷ ys) r)
        go false false d f r = rw f r

    pub filter-in_order : (xs : List K) → filter p (in_order before xs) ≡ in_order before (filter p xs)
    filter-in_order [] = refl
    filter-in_order (x ∷ xs) = go (p x) refl (filter-in_order xs)
      where
        go : (b : Bool) → p x ≡ b → filter p (in_order before xs) ≡ in_order before (filter p xs) → filter p (put before x (in_order before xs)) ≡ in_order before (cond b (x ∷ filter p xs) (filter p xs))
        go true e r = filter-put x (in_order before xs) e (in_order_ordered before law xs) ∙ ap (put before x) r
        go false e r = filter-put-failing x (in_order before xs) e ∙ r
