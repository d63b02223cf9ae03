use Rattle.std.proofs.Common.{get_or, set, ap, ◌∙◌, rules}
use Rattle.meaning.specs.declared.reservation.Reservation.{Reservation}
use Rattle.meaning.specs.Rows.{met}
use Rattle.ordered.specs.Items.{items}
use Rattle.balances.specs.Shown.{shown}
use Rattle.balances.specs.Contents.{Books, no_reservation}
use Rattle.balances.specs.Legs.{released, with_fate}
use Rattle.balances.proofs.Tables.{books, plain_change}
use Rattle.balances.proofs.plain.Tables.end_at.Goals as goal

pub returns : goal.returns
returns c =
    let k = shown c.args.self.now in
    let a = c.args in
    let rel = c.release_between.ensures in
    let held = plain_change (met a.event) no_reservation (items c.release_between.new.self.reservations) (items c.change.new.self) a.slot c.change.ensures.there c.change.ensures.nowhere (λ x y r. search rules) ∙ ap (λ (b : Books). set b.held a.slot (met a.event (get_or b.held a.slot no_reservation))) rel in
    (λ i. books (rel i).rows (held i) (rel i).highest (rel i).queue (rel i).lines)
    ∙ (λ i. with_fate a.event a.slot (let R : Reservation = c.reservation_at-held.ensures i in released R.debit R.credit R.amount a.part k))
