-- What each item of a list stands for, one behind the other.
use Rattle.std.proofs.Common.{◌≡◌, ℕ, zero, suc, ◌+◌, ◌≤◌, List, [], ◌∷◌, ◌++◌, Some, length, take, ap, sym, ◌∙◌, arith}
use Rattle.std.specs.Prelude.{flat_map}
use Rattle.std.specs.List.{slice_get}
use Rattle.std.proofs.lemmas.List.{append-nil, append_assoc, length-append}

module _ {X Y : Type 0} (f : X → List Y) where
  -- one item more
  pub parts_more : (xs : List X) (i : ℕ) (x : X) → slice_get xs i ≡ Some x → flat_map f (take (suc i) xs) ≡ flat_map f (take i xs) ++ f x
  parts_more [] i x is = absurd (cc is)
  parts_more (y ∷ xs) zero x is = let e : y ≡ x = cc in append-nil (f y) ∙ ap f e
  parts_more (y ∷ xs) (suc i) x is = ap (λ zs. f y ++ zs) (parts_more xs i x is) ∙ sym (append_assoc (f y) _ _)

  -- no more than all of them
  pub parts_within : (xs : List X) (i : ℕ) (x : X) → slice_get xs i ≡ Some x → length (flat_map f (take i xs)) + length (f x) ≤ length (flat_map f xs)
  parts_within [] i x is = absurd (cc is)
  parts_within (y ∷ xs) zero x is = let e : y ≡ x = cc in omega (arith, ap (λ z. length (f z)) e, length-append (f y) (flat_map f xs))
  parts_within (y ∷ xs) (suc i) x is = omega (arith, parts_within xs i x is, length-append (f y) (flat_map f (take i xs)), length-append (f y) (flat_map f xs))
