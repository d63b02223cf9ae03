-- What comes next in a list from a place on.
use Rattle.std.proofs.Common.{◌≡◌, ℕ, zero, suc, ◌+◌, List, [], ◌∷◌, drop, Some, None, refl, ap, ◌∙◌, arith}
use Rattle.std.specs.List.{slice_get}
use Rattle.std.proofs.lemmas.Option.{none-some}

pub next_is : {X : Type 0} (xs : List X) (i : ℕ) (x : X) → slice_get xs i ≡ Some x → drop i xs ≡ x ∷ drop (i + 1) xs
next_is [] i x e = absurd (none-some x e)
next_is (y ∷ xs) zero x e = cc
next_is (y ∷ xs) (suc i) x e = let n : suc (i + 1) ≡ suc i + 1 = omega arith in next_is xs i x e ∙ ap (λ k. x ∷ drop k (y ∷ xs)) n

pub none_left : {X : Type 0} (xs : List X) (i : ℕ) → slice_get xs i ≡ None → drop i xs ≡ []
none_left [] zero e = refl
none_left [] (suc i) e = refl
none_left (y ∷ xs) zero e = grind arith
none_left (y ∷ xs) (suc i) e = none_left xs i e
