use Rattle.std.proofs.Common.{ap, ◌∙◌, arith}
use Rattle.std.specs.Option.{option_or}
use Rattle.meaning.specs.declared.content.Content.TheVariants.{Post}
use Rattle.meaning.specs.declared.fate.Event.TheVariants.{Post as event}
use Rattle.balances.specs.Books.{Books, books_of, held_place}
use Rattle.balances.specs.Judged.{post_judged}
use Rattle.balances.specs.Legs.{closed}
use Rattle.image.proofs.Closed.{by_post}
use Rattle.steps.proofs.Judging.{option_or-none, post_judged_lem}
use Rattle.steps.proofs.Soundly.{post_sound}
use Rattle.steps.proofs.Stepping.{room_for_leg, stepped}
use Rattle.steps.proofs.legs.take_post.Goals as goal

pub returns : goal.returns
returns c =
    let a = c.args in
    let t = c.post.ensures in
    let b = a.chain.now.balances.now in
    record {
      goes_on = t.goes_on;
      written = t.written;
      leg = λ policy J T shown lt.
          let judged = post_judged a.number a.reservation a.amount (books_of b) in
          stepped policy J T a.number (Post a.reservation a.amount) c.post.result (books_of b) (λ (k : Books). closed event a.number (held_place k a.reservation) a.amount k) c.post.new.self.balances.now
          (t.answer ∙ (ap (option_or judged) (room_for_leg b lt) ∙ (option_or-none judged ∙ post_judged_lem policy J T shown.reads (books_of b) shown.tables a.number a.reservation a.amount))) t.books shown.tables
          (λ h l. by_post policy J shown.reads T a.number l a.reservation a.amount h)
          (λ h le l. post_sound policy J shown.reads T a.number l (omega arith) le a.reservation a.amount (omega arith) h);
    }
