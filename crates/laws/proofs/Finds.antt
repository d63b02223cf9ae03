-- Sums over lists, and lists whose elements have keys.
use Rattle.std.proofs.Common.{◌≡◌, ℕ, ◌+◌, Bool, true, false, cond, eqb, List, [], ◌∷◌, Some, None, Option, sym, refl, ap, ◌∙◌, subst, arith}
use Rattle.std.specs.List.{AllByRecursion as All, IsDistinct, find}
use Rattle.std.proofs.ByRecursion.{All-weaker}
use Rattle.std.proofs.lemmas.Bool.{ne_eqb}
use Rattle.meaning.specs.Basics.{sum_of}

module _ {X : Type 0} where
  -- the first whose key is n
  abbrev pub find_by : (X → ℕ) → ℕ → List X → Option X
  find_by k n xs = find (λ x. eqb (k x) n) xs

  pub sum_add : (f g k : X → ℕ) (xs : List X) → ((x : X) → f x ≡ g x + k x) → sum_of f xs ≡ sum_of g xs + sum_of k xs
  sum_add f g k [] h = refl
  sum_add f g k (x ∷ xs) h = omega (arith, sum_add f g k xs h, h x)

  pub sum_zero : (xs : List X) → sum_of (λ x. 0) xs ≡ 0
  sum_zero [] = refl
  sum_zero (x ∷ xs) = omega (arith, sum_zero xs)

  abbrev pub Distinct : (X → ℕ) → List X → Type 0
  Distinct k [] = Unit {0}
  Distinct k (x ∷ xs) = All (λ y. k y ≡ k x → ⊥) xs × Distinct k xs

  -- where keys differ, each is found under its own
  pub finds_each : (k : X → ℕ) (xs : List X) → Distinct k xs → All (λ x. find_by k (k x) xs ≡ Some x) xs
  finds_each k [] h = tt
  finds_each k (x ∷ xs) h = (grind arith, later xs h.0 (finds_each k xs h.1))
    where
      later : (ys : List X) → All (λ y. k y ≡ k x → ⊥) ys → All (λ y. find_by k (k y) xs ≡ Some y) ys → All (λ y. find_by k (k y) (x ∷ xs) ≡ Some y) ys
      later [] a f = tt
      later (y ∷ ys) a f = let ne : k x ≡ k y → ⊥ = λ e. a.0 (sym e) in let g = f.0 in (grind arith, later ys a.1 f.1)

  -- as the library says it
  pub differ : (k : X → ℕ) (xs : List X) → Distinct k xs → IsDistinct (λ x y. eqb (k x) (k y)) xs
  unfolding IsDistinct
  differ k [] h = tt
  differ k (x ∷ xs) h = (All-weaker (λ y. k y ≡ k x → ⊥) (λ y. eqb (k x) (k y) ≡ false) (λ y ne. ne_eqb (k x) (k y) (λ e. ne (sym e))) xs h.0, differ k xs h.1)

  module _ (k : X → ℕ) (n : ℕ) where
    pub find_key : (xs : List X) (x : X) → find_by k n xs ≡ Some x → k x ≡ n
    find_key [] x e = grind arith
    find_key (y ∷ xs) x e = go (eqb (k y) n) refl e (find_key xs x)
      where
        go : (b : Bool) → eqb (k y) n ≡ b → cond b (Some y) (find_by k n xs) ≡ Some x → (find_by k n xs ≡ Some x → k x ≡ n) → k x ≡ n
        go true e h ih = let q : y ≡ x = cc in let w = ap k q in grind arith
        go false e h ih = ih h

    pub find_all : (P : X → Type 0) (xs : List X) (x : X) → All P xs → find_by k n xs ≡ Some x → P x
    find_all P [] x a e = absurd (grind arith)
    find_all P (y ∷ xs) x a e = go (eqb (k y) n) e (find_all P xs x a.1)
      where
        go : (b : Bool) → cond b (Some y) (find_by k n xs) ≡ Some x → (find_by k n xs ≡ Some x → P x) → P x
        go true h ih = let q : y ≡ x = cc in subst P q a.0
        go false h ih = ih h

    pub find_none : (xs : List X) → find_by k n xs ≡ None → All (λ x. k x ≡ n → ⊥) xs
    find_none [] e = tt
    find_none (x ∷ xs) e = let ne : k x ≡ n → ⊥ = grind arith in (ne, find_none xs (grind arith))

    -- one of the list leaves the sum
    pub sum_less : (f g : X → ℕ) (xs : List X) (x : X) → Distinct k xs → find_by k n xs ≡ Some x → ((y : X) → (k y ≡ n → ⊥) → f y ≡ g y) → g x ≡ 0 → sum_of f xs ≡ sum_of g xs + f x
    sum_less f g [] x fall e same out = absurd (grind arith)
    sum_less f g (y ∷ xs) x fall e same out = go (eqb (k y) n) refl e (λ h. sum_less f g xs x fall.1 h same out)
      where
        rest : k y ≡ n → (ys : List X) → All (λ w. k w ≡ k y → ⊥) ys → sum_of f ys ≡ sum_of g ys
        rest q [] a = refl
        rest q (w ∷ ys) a = omega (arith, rest q ys a.1, same w (λ v. a.0 (v ∙ sym q)))

        go : (b : Bool) → eqb (k y) n ≡ b → cond b (Some y) (find_by k n xs) ≡ Some x → (find_by k n xs ≡ Some x → sum_of f xs ≡ sum_of g xs + f x) → f y + sum_of f xs ≡ g y + sum_of g xs + f x
        go true e h ih =
            let q : y ≡ x = cc in
            let fq = ap f q in
            let gq = ap g q in
            let ky : k y ≡ n = grind arith in
            omega (arith, rest ky xs fall.0)
        go false e h ih = let ne : k y ≡ n → ⊥ = grind arith in omega (arith, ih h, same y ne)
