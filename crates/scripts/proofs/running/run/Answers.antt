use Rattle.std.proofs.Common.{rules}
use Rattle.scripts.proofs.Wholly.{as_read, not_read}
use Rattle.scripts.proofs.running.run.Goals as goal

pub returns-in-Ok-clause-ended : goal.returns-in-Ok-clause-ended
returns-in-Ok-clause-ended c = (as_read c.args.script.now _ _ _ _ _ _ _ c.in-Ok.ensures c.run_onto-output.ensures.ran).ended

pub returns-in-Ok-clause-written : goal.returns-in-Ok-clause-written
returns-in-Ok-clause-written c = (as_read c.args.script.now _ _ _ _ _ _ _ c.in-Ok.ensures c.run_onto-output.ensures.ran).written

pub returns-in-Ok-clause-memory : goal.returns-in-Ok-clause-memory
returns-in-Ok-clause-memory c = (as_read c.args.script.now _ _ _ _ _ _ _ c.in-Ok.ensures c.run_onto-output.ensures.ran).memory

pub returns-in-Ok-clause-output : goal.returns-in-Ok-clause-output
returns-in-Ok-clause-output c = let w = (as_read c.args.script.now _ _ _ _ _ _ _ c.in-Ok.ensures c.run_onto-output.ensures.ran).output in search (rules, w)

pub returns-in-Err-clause-ended : goal.returns-in-Err-clause-ended
returns-in-Err-clause-ended c = (not_read c.args.script.now _ c.args.memory.now c.args.output.now c.in-Err.ensures).ended

pub returns-in-Err-clause-written : goal.returns-in-Err-clause-written
returns-in-Err-clause-written c = (not_read c.args.script.now _ c.args.memory.now c.args.output.now c.in-Err.ensures).written

pub returns-in-Err-clause-memory : goal.returns-in-Err-clause-memory
returns-in-Err-clause-memory c = (not_read c.args.script.now _ c.args.memory.now c.args.output.now c.in-Err.ensures).memory

pub returns-in-Err-clause-output : goal.returns-in-Err-clause-output
returns-in-Err-clause-output c = (not_read c.args.script.now _ c.args.memory.now c.args.output.now c.in-Err.ensures).output
