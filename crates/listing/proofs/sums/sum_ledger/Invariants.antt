use Rattle.std.proofs.Common.{◌≡◌}
use Rattle.balances.specs.Books.{books_of}
use Rattle.listing.specs.Keys.{to_come}
use Rattle.listing.specs.Sums.{plus_keys, sums_of}
use Rattle.listing.proofs.sums.sum_ledger.Given as goal

abbrev pub invariant-loop-key : goal.invariant-loop-key
invariant-loop-key l = plus_keys (books_of l.balances) l.ledger (to_come l.key-iterator) l.sums ≡ sums_of (books_of l.balances) l.ledger
