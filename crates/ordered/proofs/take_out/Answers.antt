use Rattle.std.proofs.Common.{take, sym, ◌∙◌, rules}
use Rattle.ordered.proofs.Places.{without_found, without_missing}
use Rattle.ordered.proofs.take_out.Goals as goal

pub returns-in-Some : goal.returns-in-Some
returns-in-Some g c =
    let out = without_found g.K.Key.before c.args.key (take c.held-end.result c.args.row.now) _ (sym c.find.ensures ∙ c.in-Some.is) in
    search rules

pub returns-in-None : goal.returns-in-None
returns-in-None g c =
    let out = without_missing g.K.Key.before c.args.key (take c.held-end.result c.args.row.now) (sym c.find.ensures ∙ c.in-None.is) in
    search rules
