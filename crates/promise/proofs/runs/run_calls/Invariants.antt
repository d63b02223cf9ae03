use Rattle.promise.specs.Made.{Same}
use Rattle.promise.proofs.Turns.{Along}
use Rattle.promise.proofs.runs.run_calls.Given as goal

abbrev pub invariant-loop-next : goal.invariant-loop-next
invariant-loop-next g l =
    Same l.initial.desk l.desk
    × (Along g.J.Journal g.P.Policy l.orders l.initial.book l.initial.desk l.calls l.next-index l.book l.desk)
