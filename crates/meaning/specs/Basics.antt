-- Words on lists that the definitions share: sums, an order, and the first check that holds.
use Rattle.std.specs.Prelude.{ℕ, ◌+◌, Bool, cond, List, [], ◌∷◌, Some, None, Option}

-- n where the test holds, else 0
abbrev pub at : Bool → ℕ → ℕ
at b n = cond b n 0

module _ {X : Type 0} where
  -- the sum of f, term by term from the front; std's `sum_by` is a fold
  abbrev pub sum_of : (X → ℕ) → List X → ℕ
  sum_of f [] = 0
  sum_of f (x ∷ xs) = f x + sum_of f xs

  -- x at its place in a list that is in order
  abbrev pub put : (X → X → Bool) → X → List X → List X
  put before x [] = x ∷ []
  put before x (y ∷ ys) = cond (before x y) (x ∷ (y ∷ ys)) (y ∷ put before x ys)

  abbrev pub in_order : (X → X → Bool) → List X → List X
  in_order before [] = []
  in_order before (x ∷ xs) = put before x (in_order before xs)

  -- the first whose test holds
  abbrev pub first_of : List (Bool × X) → Option X
  first_of [] = None
  first_of (c ∷ cs) = cond c.0 (Some c.1) (first_of cs)
