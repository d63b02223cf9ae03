use Rattle.std.proofs.Common.{sym, subst}
use Rattle.std.proofs.lemmas.List.{take-replicate}
use Rattle.book.specs.Called.{MovedTo}
use Rattle.scripts.specs.Limits.{most_lapses}
use Rattle.scripts.proofs.making.move_to.Goals as goal

pub returns : goal.returns
returns g c os =
    let b = c.args.book.now in
    let R = subst (λ lapses. MovedTo g.J.Journal g.P.Policy b c.args.moment lapses c.move_to-answer.result c.move_to-answer.new.lapses c.move_to-answer.new.self) (take-replicate c.args.places most_lapses 4294967295 c.requires) c.move_to-answer.ensures in
    record { put = rw (sym R.answer, sym R.lapses) c.show_moved.ensures.put; same = c.show_moved.ensures.same; after = R.after }
