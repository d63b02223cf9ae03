use Rattle.std.proofs.Common.{◌≤◌}
use Rattle.steps.specs.Chained.{Tied}
use Rattle.steps.proofs.Partway.{Partway}
use Rattle.steps.proofs.batches.run_batch.Given as goal

abbrev pub invariant-loop-i : goal.invariant-loop-i
invariant-loop-i g l =
    (l.start ≤ l.i)
    × (l.taken ≤ l.start)
    × (Tied g.J.Journal (g.P.Policy.admits l.policy) l.moment l.initial.balances l.initial.journal
    → Partway g.J.Journal (g.P.Policy.admits l.policy) l.moment l.initial.journal l.orders l.initial.answers l.start l.i l.taken l.answers l.balances l.journal)
