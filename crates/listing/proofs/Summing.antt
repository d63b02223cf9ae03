-- The sums over the report row are those over the journal's accounts.
use Rattle.std.proofs.Common.{◌≡◌, ℕ, ◌+◌, ◌*◌, ◌^◌, ◌<◌, Bool, true, false, cond, eqb, List, [], ◌∷◌, map, length, Some, refl, ap, ◌∙◌, arith}
use Rattle.std.specs.List.{AllByRecursion as All}
use Rattle.meaning.specs.declared.opening.Opening.{Opening}
use Rattle.meaning.specs.Basics.{at, sum_of, put, in_order}
use Rattle.meaning.specs.Given.{Journal}
use Rattle.meaning.specs.declared.standing.Standing.{Standing}
use Rattle.meaning.specs.Questions.{standing}
use Rattle.ordered.specs.Keyed.{line_of}
use Rattle.balances.specs.Books.{Books, row_asked}
use Rattle.balances.specs.Judged.{sum}
use Rattle.listing.specs.declared.sums.Sums.{Sums}
use Rattle.listing.specs.Sums.{plus, plus_if, plus_key, plus_keys}

-- an order keeps a sum
module _ {X : Type 0} (before : X → X → Bool) (f : X → ℕ) where
  sum-put : (x : X) (ys : List X) → sum_of f (put before x ys) ≡ f x + sum_of f ys
  sum-put x [] = refl
  sum-put x (y ∷ ys) =
      let r = sum-put x ys in
      elim (before x y) as (λ b. sum_of f (cond b (x ∷ (y ∷ ys)) (y ∷ put before x ys)) ≡ f x + (f y + sum_of f ys)) [ true ↦ refl | false ↦ omega arith ]

  pub sum-in_order : (xs : List X) → sum_of f (in_order before xs) ≡ sum_of f xs
  sum-in_order [] = refl
  sum-in_order (x ∷ xs) = omega (arith, sum-put x (in_order before xs), sum-in_order xs)

-- an account that the tables show as journal and moment do
abbrev pub Shown : Books → Journal → ℕ → Opening → Type 0
Shown k J T A = row_asked k A.number ≡ Some (standing J T A)

-- one of the five sums
module _ (k : Books) (J : Journal) (T L : ℕ) (π : Sums → ℕ) (f : Standing → ℕ) (adds : (a : Standing) (s : Sums) → π (plus a s) ≡ sum (π s) (f a)) where
  abbrev part : Opening → ℕ
  part A = at (eqb A.ledger L) (f (standing J T A))

  one_more : (A : Opening) (s : Sums) → Shown k J T A → π s + f (standing J T A) < 2 ^ 64 → π (plus_key k L (line_of A) s) ≡ π s + part A
  one_more A s shown fits = go (eqb A.ledger L)
    where
      go : (b : Bool) → π (cond b (plus_if (row_asked k A.number) s) s) ≡ π s + at b (f (standing J T A))
      go true = ap (λ o. π (plus_if o s)) shown ∙ omega (arith, adds (standing J T A) s)
      go false = omega arith

  pub sum_exact : (As : List Opening) (s : Sums) → All (Shown k J T) As → All (λ A. f (standing J T A) < 2 ^ 56) As → π s + length As * 2 ^ 56 < 2 ^ 64 → π (plus_keys k L (map line_of As) s) ≡ π s + sum_of part As
  sum_exact [] s shown small fits = omega arith
  sum_exact (A ∷ As) s shown small fits =
      let now = small.0 in
      let more = one_more A s shown.0 (omega arith) in
      let least : part A < 2 ^ 56 = elim (eqb A.ledger L) as (λ b. at b (f (standing J T A)) < 2 ^ 56) [ true ↦ now | false ↦ omega arith ] in
      omega (arith, sum_exact As (plus_key k L (line_of A) s) shown.1 small.1 (omega arith))
