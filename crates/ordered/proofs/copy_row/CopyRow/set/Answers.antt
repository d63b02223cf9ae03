use lib.Seq.{take-set-lt}
use Rattle.ordered.proofs.copy_row.CopyRow.set.Goals as goal

pub returns-then-place-self : goal.returns-then-place-self
returns-then-place-self g c =
    let s = c.args.self.now in
    take-set-lt s.len s.places c.args.place c.args.item c.if-place-self.true
