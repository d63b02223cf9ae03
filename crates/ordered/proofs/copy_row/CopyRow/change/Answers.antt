use Rattle.std.proofs.Common.{sym, refl, ◌∙◌, arith}
use Rattle.std.proofs.lemmas.List.{get_or-take, get_or_default}
use lib.Seq.{take-set-lt}
use Rattle.ordered.proofs.copy_row.CopyRow.change.Goals as goal

pub returns-then-place-self-clause-there : goal.returns-then-place-self-clause-there
returns-then-place-self-clause-there g c =
    let s = c.args.self.now in
    let new = c.change.new.arg2 in
    let is = get_or-take s.len s.places c.args.place new c.if-place-self.true in
    λ there. (new, record { shown = _; shows = get_or_default s.places c.args.place _ _ (omega arith) ∙ sym is; left = _; met = c.change.ensures; leaves = refl }, take-set-lt s.len s.places c.args.place new c.if-place-self.true)
