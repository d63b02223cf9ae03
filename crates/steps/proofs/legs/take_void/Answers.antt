use Rattle.std.proofs.Common.{ap, ◌∙◌, arith}
use Rattle.std.specs.Option.{option_or}
use Rattle.meaning.specs.declared.content.Content.TheVariants.{Void}
use Rattle.meaning.specs.declared.fate.Event.TheVariants.{Void as event}
use Rattle.balances.specs.Books.{Books, books_of, held_place}
use Rattle.balances.specs.Judged.{void_judged}
use Rattle.balances.specs.Legs.{closed}
use Rattle.image.proofs.Closed.{by_void}
use Rattle.steps.proofs.Judging.{option_or-none, void_judged_lem}
use Rattle.steps.proofs.Soundly.{void_sound}
use Rattle.steps.proofs.Stepping.{room_for_leg, stepped}
use Rattle.steps.proofs.legs.take_void.Goals as goal

pub returns : goal.returns
returns c =
    let a = c.args in
    let t = c.void.ensures in
    let b = a.chain.now.balances.now in
    record {
      goes_on = t.goes_on;
      written = t.written;
      leg = λ policy J T shown lt.
          let judged = void_judged a.number a.reservation (books_of b) in
          stepped policy J T a.number (Void a.reservation) c.void.result (books_of b) (λ (k : Books). closed event a.number (held_place k a.reservation) 0 k) c.void.new.self.balances.now
          (t.answer ∙ (ap (option_or judged) (room_for_leg b lt) ∙ (option_or-none judged ∙ void_judged_lem policy J T shown.reads (books_of b) shown.tables a.number a.reservation))) t.books shown.tables
          (λ h l. by_void policy J shown.reads T a.number l a.reservation h)
          (λ h le l. void_sound policy J shown.reads T a.number l (omega arith) le a.reservation (omega arith) h);
    }
