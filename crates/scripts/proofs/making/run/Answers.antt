use Rattle.std.proofs.Common.{Err, sym, subst}
use Rattle.std.proofs.lemmas.List.{take-replicate}
use Rattle.meaning.specs.declared.refusal.Refusal.TheVariants.{AnswersTooShort}
use Rattle.book.specs.Called.{RanBatch}
use Rattle.scripts.specs.Limits.{most_answers}
use Rattle.scripts.proofs.making.run.Goals as goal

pub returns : goal.returns
returns g c n =
    let b = c.args.book.now in
    let R = subst (λ answers. RanBatch g.J.Journal g.P.Policy b c.args.orders.now answers c.run-answer.result c.run-answer.new.answers c.run-answer.new.self) (take-replicate c.args.places most_answers (Err AnswersTooShort) c.requires) c.run-answer.ensures in
    record { put = rw (sym R.answer, sym R.answers) c.show_ran.ensures.put; same = c.show_ran.ensures.same; after = R.after }
