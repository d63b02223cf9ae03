use Rattle.std.proofs.Common.{◌∙◌, arith}
use Rattle.meaning.specs.declared.content.Content.TheVariants.{Transfer}
use Rattle.balances.specs.Books.{books_of}
use Rattle.balances.specs.Legs.{transferred}
use Rattle.image.proofs.Transferred.{by_transfer}
use Rattle.steps.proofs.Soundly.{transfer_sound}
use Rattle.steps.proofs.Stepping.{room_for_leg, stepped}
use Rattle.steps.proofs.legs.take_transfer.Goals as goal

pub returns : goal.returns
returns g c =
    let a = c.args in
    let t = c.transfer.ensures in
    let b = a.chain.now.balances.now in
    let policy = g.P.Policy.admits a.policy.now in
    record {
      goes_on = t.goes_on;
      written = t.written;
      leg = λ J T shown lt.
          let passed = c.in_ok-check_movement.ensures.answer J T shown (omega arith) in
          stepped policy J T a.number (Transfer a.debit a.credit a.amount) c.transfer.result (books_of b) (transferred a.number a.debit a.credit a.amount) c.transfer.new.self.balances.now
          (t.answer ∙ (room_for_leg b lt ∙ passed)) t.books shown.tables
          (λ h l. by_transfer policy J shown.reads T a.number l a.debit a.credit a.amount h)
          (λ h le l. let w = c.in_ok-check_movement.ensures.narrow in transfer_sound policy J shown.reads T a.number l w.number le a.debit a.credit a.amount w.debit w.credit h);
    }
