-- What rows in order keep, over any order.
use Rattle.std.specs.Prelude.{◌≡◌, Bool, true, false, not, List, [], ◌∷◌, ◌++◌, length, take, drop}
use Rattle.std.specs.List.{AllByRecursion, filter}
use Rattle.meaning.specs.Basics.{put, in_order}
use Rattle.ordered.specs.Rows.{apart, Ordered, without}

module _ {K : Type 0} (before : K → K → Bool) where
  -- what makes a test an order of keys
  pub record LawfulOrder : Type 0 where
    pub irreflexive : (x : K) → before x x ≡ false
    pub transitive : (x y z : K) → before x y ≡ true → before y z ≡ true → before x z ≡ true
    pub total : (x y : K) → before x y ≡ false → before y x ≡ false → x ≡ y

  -- a row is in order after every insertion
  pub record StaysInOrder : Type 0 where
    pub one : (k : K) (xs : List K) → Ordered before xs → Ordered before (put before k xs)
    pub all : (xs : List K) → Ordered before (in_order before xs)

  -- in which order keys come in does not matter
  pub record AnyOrderIn : Type 0 where
    pub two : (j k : K) (xs : List K) → put before j (put before k xs) ≡ put before k (put before j xs)
    pub first : (k : K) (xs : List K) → in_order before (k ∷ xs) ≡ put before k (in_order before xs)
    pub last : (k : K) (xs : List K) → in_order before (xs ++ k ∷ []) ≡ put before k (in_order before xs)

  -- a key that is not there is not taken out; taking out undoes putting in, and may come before the ordering or after it
  pub record TakenOut : Type 0 where
    pub none : (k : K) (xs : List K) → AllByRecursion (λ x. apart before k x ≡ true) xs → without before k xs ≡ xs
    pub fresh : (k : K) (xs : List K) → AllByRecursion (λ x. apart before k x ≡ true) xs → without before k (put before k xs) ≡ xs
    pub back : (k : K) (xs : List K) → Ordered before xs → without before k (put before k xs) ≡ xs
    pub either : (k : K) (xs : List K) → without before k (in_order before xs) ≡ in_order before (without before k xs)

  -- a test may be asked before the ordering or after it
  abbrev pub TestsPassThrough : Type 0
  TestsPassThrough = (p : K → Bool) (xs : List K) → filter p (in_order before xs) ≡ in_order before (filter p xs)

  -- a test that every earlier key passes as well holds of a front, and fails of the rest
  pub record Splits (p : K → Bool) (xs : List K) : Type 0 where
    pub front : filter p xs ≡ take (length (filter p xs)) xs
    pub rest : filter (λ x. not (p x)) xs ≡ drop (length (filter p xs)) xs

  abbrev pub FrontsPass : Type 0
  FrontsPass = (p : K → Bool) → ((x y : K) → p y ≡ true → before x y ≡ true → p x ≡ true) → (xs : List K) → Ordered before xs → Splits p xs
