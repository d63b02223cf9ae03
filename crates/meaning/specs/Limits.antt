-- How many there are at most: of accounts and of reservations in a book, resolved ones counted, and of legs in a chain.
use Rattle.std.specs.Prelude.{ℕ}

abbrev pub most_accounts : ℕ
most_accounts = 64

abbrev pub most_reservations : ℕ
most_reservations = 256

abbrev pub most_legs : ℕ
most_legs = 16
