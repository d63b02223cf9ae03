-- A test that every earlier key passes as well splits a row in order into a front and a rest.
use Rattle.std.proofs.Common.{◌≡◌, Bool, true, false, not, List, [], ◌∷◌, sym, refl, ap, ◌∙◌}
use Rattle.std.specs.List.{AllByRecursion as All, filter}
use Rattle.std.proofs.ByRecursion.{All-weaker}
use Rattle.std.proofs.lemmas.Bool.{both_ways}
use Rattle.ordered.specs.Rows.{Ordered}
use Rattle.ordered.specs.Laws.{LawfulOrder, Splits}

module _ {K : Type 0} (p : K → Bool) where
  filter_none : (xs : List K) → All (λ x. p x ≡ false) xs → filter p xs ≡ []
  filter_none [] h = refl
  filter_none (x ∷ xs) h = rw h.0 (filter_none xs h.1)

  filter_all : (xs : List K) → All (λ x. p x ≡ false) xs → filter (λ x. not (p x)) xs ≡ xs
  filter_all [] h = refl
  filter_all (x ∷ xs) h = rw h.0 (ap (λ ys. x ∷ ys) (filter_all xs h.1))

module _ {K : Type 0} (before : K → K → Bool) (law : LawfulOrder before) (p : K → Bool) (down : (x y : K) → p y ≡ true → before x y ≡ true → p x ≡ true) where
  fails_after : (x y : K) → p x ≡ false → before y x ≡ false → p y ≡ false
  fails_after x y e f = go (p y) (before x y) refl refl
    where
      go : (q b : Bool) → p y ≡ q → before x y ≡ b → p y ≡ false
      go true true h d = absurd (both_ways (p x) e (down x y h d))
      go true false h d = ap p (sym (law.total x y d f)) ∙ e
      go false b h d = h

  pub splits : (xs : List K) → Ordered before xs → Splits before p xs
  splits [] h = record { front = refl; rest = refl }
  splits (x ∷ xs) h = go (p x) refl (splits xs h.1)
    where
      go : (b : Bool) → p x ≡ b → Splits before p xs → Splits before p (x ∷ xs)
      go true e r = record { front = rw e (ap (λ ys. x ∷ ys) r.front); rest = rw e r.rest }
      go false e r =
          let fail : All (λ y. p y ≡ false) xs = All-weaker _ _ (λ y f. fails_after x y e f) xs h.0 in
          let none = filter_none p xs fail in
          let all = filter_all p xs fail in
          record { front = rw (e, none); rest = rw (e, none, all) }
