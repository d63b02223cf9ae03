use Rattle.std.proofs.Common.{◌≡◌, ◌-◌}
use Rattle.balances.specs.Books.{books_of}
use Rattle.image.specs.Image.{lapses}
use Rattle.moves.proofs.advance.Given as goal

abbrev pub invariant-loop-turn : goal.invariant-loop-turn
invariant-loop-turn l = lapses (l.due - l._turn) l.moment (books_of l.balances) ≡ lapses l.due l.moment (books_of l.initial.balances)
