use Rattle.std.proofs.Common.{unwrap_or, ap, ◌∙◌}
use Rattle.std.proofs.lemmas.Option.{unwrap_or-slice_get}
use Rattle.ordered.specs.Items.{items}
use Rattle.balances.specs.Contents.{no_reservation}
use Rattle.balances.proofs.plain.Tables.reservation_at.Goals as goal

pub returns : goal.returns
returns c =
    let i = c.args.place in
    (c.unwrap_or.ensures ∙ ap (λ o. unwrap_or o no_reservation) c.get.ensures)
    ∙ (unwrap_or-slice_get (items c.args.self.now.reservations) i no_reservation)
