use Rattle.book.specs.States.{policy_of}
use Rattle.steps.specs.Written.{journal_of}
use Rattle.book.proofs.Calling.{reported}
use Rattle.book.proofs.Running.{running, reads}
use Rattle.book.proofs.book.Book.report.Goals as goal

pub returns : goal.returns
returns g c =
    let j = g.J.Journal in
    let p = g.P.Policy in
    let b = c.args.self.now in
    let R = running j p b c.in_ok-require_read.ensures in
    reported j p b R c.args.buffer.now c.report.new.buffer c.report.result (c.report.ensures (policy_of j p b) (journal_of j b.journal) b.moment (reads j p b R) R.runs.tables)
