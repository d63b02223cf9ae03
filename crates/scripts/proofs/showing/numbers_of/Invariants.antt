use Rattle.std.proofs.Common.{◌≡◌, length, take, map}
use Rattle.meaning.specs.Numbers.{answer_of}
use Rattle.scripts.specs.Limits.{most_answers}
use Rattle.scripts.proofs.showing.numbers_of.Given as goal

abbrev pub invariant-loop-place : goal.invariant-loop-place
invariant-loop-place l = (length l.numbers ≡ most_answers) × (take l.place l.numbers ≡ map answer_of (take l.place l.answers))
