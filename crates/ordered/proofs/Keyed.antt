-- An order on things that their keys decide.
use Rattle.std.proofs.Common.{◌≡◌, Bool, true, false, cond, List, [], ◌∷◌, map, refl, ap, ◌∙◌}
use Rattle.meaning.specs.Basics.{put, in_order}

module _ {X K : Type 0} (sooner : X → X → Bool) (before : K → K → Bool) (key : X → K) (by_key : (x y : X) → sooner x y ≡ before (key x) (key y)) where
  pub map-put : (x : X) (ys : List X) → map key (put sooner x ys) ≡ put before (key x) (map key ys)
  map-put x [] = refl
  map-put x (y ∷ ys) =
      let r = map-put x ys in
      rw (by_key x y) (elim (before (key x) (key y)) as (λ b. map key (cond b (x ∷ (y ∷ ys)) (y ∷ put sooner x ys)) ≡ cond b (key x ∷ (key y ∷ map key ys)) (key y ∷ put before (key x) (map key ys))) [ true ↦ refl | false ↦ ap (λ zs. key y ∷ zs) r ])

  pub map-in_order : (xs : List X) → map key (in_order sooner xs) ≡ in_order before (map key xs)
  map-in_order [] = refl
  map-in_order (x ∷ xs) = map-put x (in_order sooner xs) ∙ ap (put before (key x)) (map-in_order xs)
