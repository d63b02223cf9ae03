use Rattle.std.proofs.Common.{length, ap, ◌∙◌}
use Rattle.balances.specs.Books.{books_of}
use Rattle.balances.specs.Legs.{tracing}
use Rattle.balances.specs.Undone.{noted_of}
use Rattle.balances.proofs.Undoing.{leg_back, transfer_back}
use Rattle.balances.proofs.balances.Balances.transfer.Goals as goal

pub returns-clause-back : goal.returns-clause-back
returns-clause-back c =
    let k = books_of c.args.self.now in
    let traced = c.trace.ensures ∙ ap (λ i. tracing c.args.debit c.args.credit i k) c.reserved-no_slot.ensures in
    λ room. leg_back (noted_of c.args.self.now) _ _ (tracing c.args.debit c.args.credit (length k.held) k) c.args.fields k _ _ c.note.ensures traced c.transfer.ensures room (transfer_back k _ c.args.fields.number c.args.debit c.args.credit c.args.amount)
