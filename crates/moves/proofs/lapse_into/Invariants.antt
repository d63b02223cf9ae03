use Rattle.std.proofs.Common.{◌≡◌, ◌-◌, ◌++◌, length, take, drop}
use Rattle.balances.specs.Books.{books_of}
use Rattle.image.specs.Image.{lapses}
use Rattle.moves.specs.Turns.{filled_in}
use Rattle.moves.proofs.lapse_into.Given as goal

abbrev pub invariant-loop-place : goal.invariant-loop-place
invariant-loop-place l =
    (lapses (length l.places - l.place-index) l.moment (books_of l.balances) ≡ lapses (length l.initial.places) l.moment (books_of l.initial.balances))
    × (take l.place-index l.places ++ filled_in l.moment (books_of l.balances) (drop l.place-index l.places) ≡ filled_in l.moment (books_of l.initial.balances) l.initial.places)
