-- One more lapse, by the turns that are left.
use Rattle.std.proofs.Common.{◌≡◌, ℕ, suc, ◌+◌, ◌-◌, ◌<◌, ◌≤◌, List, [], ◌∷◌, ◌++◌, length, get_or, take, drop, set, ap, append_assoc, arith}
use Rattle.std.specs.Option.{unwrap_or}
use Rattle.std.proofs.lemmas.List.{drop_more, take_more_set, drop-set-lt}
use Rattle.balances.specs.Books.{Books}
use Rattle.balances.specs.Lapses.{next_due, lapsed_if, number_in}
use Rattle.image.specs.Image.{lapses}
use Rattle.moves.specs.Turns.{filled_in}

pub one_more : (n i t : ℕ) (k : Books) → i < n → lapses (n - i) t k ≡ lapses (n - (i + 1)) t (lapsed_if (next_due t k) k)
one_more n i t k h = let e : n - i ≡ suc (n - (i + 1)) = omega arith in ap (λ m. lapses m t k) e

pub no_more : (n i t : ℕ) (k : Books) → n ≤ i → lapses (n - i) t k ≡ k
no_more n i t k h = let e : n - i ≡ 0 = omega arith in ap (λ m. lapses m t k) e

-- one more place is written
pub number_more : (t : ℕ) (k : Books) (xs ys all : List ℕ) (i : ℕ) → i < length xs → ys ≡ set xs i (unwrap_or (number_in (next_due t k)) (get_or xs i 0)) → take i xs ++ filled_in t k (drop i xs) ≡ all → take (i + 1) ys ++ filled_in t (lapsed_if (next_due t k) k) (drop (i + 1) ys) ≡ all
number_more t k xs ys all i h e inv =
    let n = unwrap_or (number_in (next_due t k)) (get_or xs i 0) in
    let front : take (i + 1) ys ≡ take i xs ++ n ∷ [] = rw e (take_more_set xs i n h) in
    let rest : drop (i + 1) ys ≡ drop (i + 1) xs = rw e (drop-set-lt (i + 1) xs i n (omega arith)) in
    let here = ap (filled_in t k) (drop_more xs i 0 h) in
    let join = append_assoc (take i xs) (n ∷ []) (filled_in t (lapsed_if (next_due t k) k) (drop (i + 1) xs)) in
    cc
