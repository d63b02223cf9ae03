use Rattle.std.proofs.Common.{[]}
use Rattle.scripts.proofs.making.make.Goals as goal

pub returns-in-Open : goal.returns-in-Open
returns-in-Open g c = rw c.in-Open.is (c.open.ensures [])

pub returns-in-Run : goal.returns-in-Run
returns-in-Run g c = rw c.in-Run.is (c.run.ensures _)

pub returns-in-Move : goal.returns-in-Move
returns-in-Move g c = rw c.in-Move.is (c.move_to.ensures [])

pub returns-in-Report : goal.returns-in-Report
returns-in-Report g c = rw c.in-Report.is (c.report.ensures [])
