use Rattle.std.proofs.Common.{get_or, ap, ◌∙◌}
use Rattle.balances.specs.Books.{books_of}
use Rattle.meaning.specs.declared.reservation.Reservation.{Reservation}
use Rattle.balances.specs.Contents.{no_reservation}
use Rattle.balances.specs.Legs.{tracing}
use Rattle.balances.specs.Undone.{noted_of}
use Rattle.balances.proofs.Undoing.{leg_back, close_back}
use Rattle.balances.proofs.balances.Balances.close.Goals as goal

pub returns-clause-back : goal.returns-clause-back
returns-clause-back c =
    let k = books_of c.args.self.now in
    let i = c.args.slot in
    let R = get_or k.held i no_reservation in
    let traced = c.trace.ensures ∙ ap (λ (Q : Reservation). tracing Q.debit Q.credit i k) c.reservation_at-held.ensures in
    λ room. leg_back (noted_of c.args.self.now) _ _ (tracing R.debit R.credit i k) c.args.fields k _ _ c.note.ensures traced c.close.ensures room (close_back k _ c.args.event c.args.fields.number i c.args.part)
