-- A move on the tables: which numbers it writes.
use Rattle.std.specs.Prelude.{ℕ, List, [], ◌∷◌}
use Rattle.std.specs.Option.{unwrap_or}
use Rattle.balances.specs.Books.{Books}
use Rattle.balances.specs.Lapses.{next_due, lapsed_if, number_in}

-- places, each written over by the number of what lapses next, if anything does
abbrev pub filled_in : ℕ → Books → List ℕ → List ℕ
filled_in t k [] = []
filled_in t k (n ∷ ns) = unwrap_or (number_in (next_due t k)) n ∷ filled_in t (lapsed_if (next_due t k) k) ns
