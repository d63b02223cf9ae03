use Rattle.std.proofs.Common.{sym, subst}
use Rattle.std.proofs.lemmas.List.{take-replicate}
use Rattle.book.specs.Called.{Reported}
use Rattle.scripts.specs.Limits.{most_bytes}
use Rattle.scripts.proofs.Booked.{unmoved}
use Rattle.scripts.proofs.making.report.Goals as goal

pub returns : goal.returns
returns g c os =
    let b = c.args.book.now in
    let R = subst (λ bytes. Reported g.J.Journal g.P.Policy b bytes c.report-answer.result c.report-answer.new.buffer) (take-replicate c.args.places most_bytes 165 c.requires) c.report-answer.ensures in
    record { put = rw (sym R.answer, sym R.buffer) c.show_reported.ensures.put; same = c.show_reported.ensures.same; after = unmoved g.J.Journal g.P.Policy b }
