use Rattle.std.proofs.Common.{◌≡◌, length}
use Rattle.balances.specs.Books.{books_of}
use Rattle.listing.specs.Keys.{to_come}
use Rattle.listing.specs.Pages.{with_bytes}
use Rattle.listing.specs.Lines.{keys_bytes}
use Rattle.listing.proofs.page.Page.keys.Given as goal

abbrev pub invariant-loop-key : goal.invariant-loop-key
invariant-loop-key l =
    with_bytes (keys_bytes (books_of l.balances) (to_come l.keys)) l.self ≡ with_bytes (keys_bytes (books_of l.balances) (books_of l.balances).lines) l.initial.self

abbrev pub decreases-loop-key : goal.decreases-loop-key
decreases-loop-key l = length (to_come l.keys)
