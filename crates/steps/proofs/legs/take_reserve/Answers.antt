use Rattle.std.proofs.Common.{length, ap, ◌∙◌, arith}
use Rattle.std.specs.Option.{option_or}
use Rattle.meaning.specs.declared.content.Content.TheVariants.{Reserve}
use Rattle.meaning.specs.declared.reservation.Reservation.{Reservation}
use Rattle.meaning.specs.Given.{reservations}
use Rattle.meaning.specs.Rules.{room_refused}
use Rattle.balances.specs.Judged.{room_judged}
use Rattle.image.specs.Image.{image_of}
use Rattle.balances.specs.Books.{books_of}
use Rattle.balances.specs.Legs.{reserved}
use Rattle.image.proofs.Held.{by_reserve}
use Rattle.steps.proofs.Judging.{room_judged_lem}
use Rattle.steps.proofs.Soundly.{reserve_sound, not_due}
use Rattle.steps.proofs.Stepping.{room_for_leg, stepped, held_live}
use Rattle.steps.proofs.legs.take_reserve.Goals as goal

pub returns : goal.returns
returns g c =
    let R = c.args.held in
    let t = c.reserve.ensures in
    let b = c.args.chain.now.balances.now in
    let policy = g.P.Policy.admits c.args.policy.now in
    record {
      goes_on = t.goes_on;
      written = t.written;
      leg = λ J T shown lt live later.
          let passed = c.in_ok-check_movement.ensures.answer J T shown (omega arith) in
          let room = ap (λ x. option_or x (room_judged (books_of b))) (room_for_leg b lt) ∙ room_judged_lem policy J T shown.reads (books_of b) shown.tables in
          stepped policy J T R.number (Reserve R.debit R.credit R.amount R.deadline) c.reserve.result (books_of b) (reserved R) c.reserve.new.self.balances.now
          (t.answer ∙ (room ∙ ap (λ x. option_or x (room_refused (length (reservations J)))) passed)) t.books shown.tables
          (λ h l. ap (λ (Q : Reservation). reserved Q (image_of J T)) (held_live R live) ∙ by_reserve policy J shown.reads T R.number l R.debit R.credit R.amount R.deadline h (not_due T R.deadline later))
          (λ h le l. let w = c.in_ok-check_movement.ensures.narrow in reserve_sound policy J shown.reads T R.number l w.number le R.debit R.credit R.amount R.deadline w.debit w.credit later h);
    }
