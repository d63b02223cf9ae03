use Rattle.std.proofs.Common.{length, ap, ◌∙◌}
use Rattle.balances.specs.Books.{books_of}
use Rattle.balances.specs.Legs.{tracing}
use Rattle.balances.specs.Undone.{noted_of}
use Rattle.balances.proofs.Undoing.{leg_back, reserve_back}
use Rattle.balances.proofs.balances.Balances.reserve.Goals as goal

pub returns-clause-back : goal.returns-clause-back
returns-clause-back c =
    let k = books_of c.args.self.now in
    let R = c.args.held in
    let traced = c.trace.ensures ∙ ap (λ i. tracing R.debit R.credit i k) c.reserved-slot.ensures in
    λ room. leg_back (noted_of c.args.self.now) _ _ (tracing R.debit R.credit (length k.held) k) c.args.fields k _ _ c.note.ensures traced c.reserve.ensures room (reserve_back k _ R)
