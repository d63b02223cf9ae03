use Rattle.std.proofs.Common.{rules}
use Rattle.scripts.proofs.running.run_by.Goals as goal

pub returns-in-Roll : goal.returns-in-Roll
returns-in-Roll g c = rw c.in-Roll.is (c.run_on_roll.ensures c.args.memory.now c.args.head.now.used)

-- The kind is put in first: over a journal of another kind the search then ends at a fact that is false, and not at a limit.
pub returns-in-StripAndRoll : goal.returns-in-StripAndRoll
returns-in-StripAndRoll g c = rw c.in-StripAndRoll.is (search rules)
