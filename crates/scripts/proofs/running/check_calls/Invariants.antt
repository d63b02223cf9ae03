use Rattle.std.proofs.Common.{◌≡◌, ◌≤◌, ◌-◌}
use Rattle.scripts.specs.Forms.{calls_at}
use Rattle.scripts.specs.Readers.{whether}
use Rattle.scripts.proofs.running.check_calls.Given as goal

abbrev pub invariant-loop-call : goal.invariant-loop-call
invariant-loop-call l =
    (l._call ≤ l.most) × (whether (calls_at (l.most - l._call) l.reader.rest.now) ≡ whether (calls_at l.most l.fn.reader.rest.now))
