use Rattle.std.proofs.Common.{◌≡◌, length}
use Rattle.balances.specs.Undone.{noted_of, rolled_back}
use Rattle.balances.proofs.balances.Balances.unwind.Given as goal

abbrev pub invariant-loop-leg : goal.invariant-loop-leg
invariant-loop-leg l = rolled_back l.self ≡ rolled_back l.initial.self

abbrev pub decreases-loop-leg : goal.decreases-loop-leg
decreases-loop-leg l = length (noted_of l.self).traces
