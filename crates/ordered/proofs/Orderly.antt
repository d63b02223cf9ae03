-- What the three laws of an order give for two and three keys, and for one key and many.
use Rattle.std.proofs.Common.{◌≡◌, ◌+◌, Bool, true, false, cond, List, [], ◌∷◌, length, refl, arith}
use Rattle.std.specs.List.{AllByRecursion as All, filter}
use Rattle.std.proofs.ByRecursion.{All-weaker}
use Rattle.std.proofs.lemmas.Bool.{both_ways}
use Rattle.meaning.specs.Basics.{put}
use Rattle.ordered.specs.Laws.{LawfulOrder}

module _ {K : Type 0} (before : K → K → Bool) where
  pub all_put : (P : K → Type 0) (k : K) (xs : List K) → P k → All P xs → All P (put before k xs)
  all_put P k [] here rest = (here, tt)
  all_put P k (x ∷ xs) here rest =
      let r = all_put P k xs here rest.1 in
      elim (before k x) as (λ b. All P (cond b (k ∷ (x ∷ xs)) (x ∷ put before k xs))) [ true ↦ (here, rest) | false ↦ (rest.0, r) ]

  pub length-put : (k : K) (xs : List K) → length (put before k xs) ≡ length xs + 1
  length-put k [] = refl
  length-put k (x ∷ xs) =
      let r = length-put k xs in
      elim (before k x) as (λ b. length (cond b (k ∷ (x ∷ xs)) (x ∷ put before k xs)) ≡ length (x ∷ xs) + 1) [ true ↦ omega arith | false ↦ omega (arith, r) ]

  pub all_filtered : (P : K → Type 0) (p : K → Bool) (xs : List K) → All P xs → All P (filter p xs)
  all_filtered P p [] h = tt
  all_filtered P p (x ∷ xs) h =
      let r = all_filtered P p xs h.1 in
      elim (p x) as (λ b. All P (cond b (x ∷ filter p xs) (filter p xs))) [ true ↦ (h.0, r) | false ↦ r ]

  module _ (law : LawfulOrder before) where
    -- what is not before z is not before what comes before z
    pub no_sooner : (x y z : K) → before x z ≡ true → before y z ≡ false → before y x ≡ false
    no_sooner x y z e f = go (before y x) refl
      where
        go : (b : Bool) → before y x ≡ b → before y x ≡ false
        go true h = absurd (both_ways (before y z) f (law.transitive y x z h e))
        go false h = h

    pub one_way : (x y : K) → before x y ≡ true → before y x ≡ false
    one_way x y e = no_sooner x y y e (law.irreflexive y)

    pub none_sooner : (x z : K) (ys : List K) → before x z ≡ true → All (λ y. before y z ≡ false) ys → All (λ y. before y x ≡ false) ys
    none_sooner x z ys e h = All-weaker _ _ (λ y f. no_sooner x y z e f) ys h

    -- a key that none is before goes to the front
    pub put_first : (k : K) (xs : List K) → All (λ y. before y k ≡ false) xs → put before k xs ≡ k ∷ xs
    put_first k [] h = refl
    put_first k (x ∷ xs) h = go (before k x) refl (put_first k xs h.1)
      where
        go : (b : Bool) → before k x ≡ b → put before k xs ≡ k ∷ xs → cond b (k ∷ (x ∷ xs)) (x ∷ put before k xs) ≡ k ∷ (x ∷ xs)
        go true e r = refl
        go false e r = let same : k ≡ x = law.total k x e h.0 in cc
