use Rattle.std.proofs.Common.{◌≡◌, ◌-◌, ◌++◌, length, take, drop, ap, ◌∙◌, arith}
use Rattle.std.specs.List.{remove}
use Rattle.std.proofs.lemmas.List.{length-take, take_at}
use Rattle.std.proofs.lemmas.List.Edits.{length-remove}
use Rattle.ordered.proofs.Shifts.{shift_down}
use Rattle.ordered.proofs.remove_at.Goals as goal

pub returns : goal.returns
returns g c =
    let row = c.args.row.now in
    let n = c.args.len in
    let i = c.args.i in
    let down = shift_down row n i c.requires.fits c.requires.within in
    let after = c.copy_within.ensures.after in
    let new : c.copy_within.new.self ≡ remove (take n row) i ++ drop (n - 1) row = cc in
    let long : length (remove (take n row) i) ≡ n - 1 = omega (arith, length-remove (take n row) i (simp length-take (omega arith)), length-take n row) in
    record { count = long; row = new; front = ap (take (n - 1)) new ∙ take_at _ _ _ long }
