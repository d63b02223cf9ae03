use Rattle.std.proofs.Common.{take, ap, ◌∙◌, rules}
use Rattle.std.specs.List.{insert}
use Rattle.ordered.proofs.Places.{put_at_place}
use Rattle.ordered.proofs.put.Goals as goal

pub returns : goal.returns
returns g c =
    let first = take c.args.len c.args.row.now in
    let at = ap (λ i. insert first i c.args.key) c.place-i.ensures.place ∙ put_at_place g.K.Key.before c.args.key first in
    search rules
