use Rattle.std.proofs.Common.{◌≡◌, ◌+◌, ◌++◌, length, take, drop, set, ap, ◌∙◌, arith}
use Rattle.std.specs.List.{insert}
use Rattle.std.proofs.lemmas.List.{length-take, take_at}
use Rattle.std.proofs.lemmas.List.Edits.{length-insert}
use Rattle.ordered.proofs.Shifts.{shift_up}
use Rattle.ordered.proofs.insert_at.Goals as goal

pub returns : goal.returns
returns g c =
    let row = c.args.row.now in
    let n = c.args.len in
    let i = c.args.i in
    let k = c.args.key in
    let up = shift_up row n i k c.requires.room c.requires.within in
    let after = c.copy_within.ensures.after in
    let new : set c.copy_within.new.self i k ≡ insert (take n row) i k ++ drop (n + 1) row = cc in
    let long : length (insert (take n row) i k) ≡ n + 1 = length-insert (take n row) i k (simp length-take (omega arith)) ∙ simp length-take (omega arith) in
    record { row = new; front = ap (take (n + 1)) new ∙ take_at _ _ _ long }
