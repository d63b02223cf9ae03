-- Rows of keys in order, over any test `before` that says which of two keys comes first.
use Rattle.std.specs.Prelude.{◌≡◌, ℕ, ◌+◌, Bool, false, cond, ◌||◌, List, [], ◌∷◌, ◌++◌, length, take, drop, nat_lt}
use Rattle.std.specs.List.{AllByRecursion}
use Rattle.meaning.specs.Basics.{put}

-- how many of a row are in use after one more was put among its first n, if there was room
abbrev pub count_with : {X : Type 0} → ℕ → List X → ℕ
count_with n row = cond (nat_lt n (length row)) (n + 1) n

-- a row of at most n items after a change that adds one; a full row stays as it is
abbrev pub if_room : {X : Type 0} → ℕ → (List X → List X) → List X → List X
if_room n f xs = cond (nat_lt (length xs) n) (f xs) xs

module _ {K : Type 0} (before : K → K → Bool) where
  -- one of the two comes first, so they are not the same key
  abbrev pub apart : K → K → Bool
  apart x y = before x y || before y x

  -- no key is before an earlier one
  abbrev pub Ordered : List K → Type 0
  Ordered [] = Unit {0}
  Ordered (x ∷ xs) = AllByRecursion (λ y. before y x ≡ false) xs × Ordered xs

  -- the keys without the first that is the same as k
  abbrev pub without : K → List K → List K
  without k [] = []
  without k (x ∷ xs) = cond (apart k x) (x ∷ without k xs) xs

  -- a row after k was put among its first n: it takes the next place too, and a full row stays as it is
  abbrev pub row_with : K → ℕ → List K → List K
  row_with k n row = cond (nat_lt n (length row)) (put before k (take n row) ++ drop (n + 1) row) row

  -- a row after k was taken out of its first n: those behind k move down by one, and the last of the n places keeps what it held
  abbrev pub row_without : K → ℕ → List K → List K
  row_without k n row = without k (take n row) ++ drop (length (without k (take n row))) row
