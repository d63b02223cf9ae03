use Rattle.std.proofs.Common.{length, Err, Result, sym, refl, ap, ◌∙◌, subst, arith}
use Rattle.std.proofs.lemmas.Result.{err_from_is_err_and}
use Rattle.meaning.specs.declared.answers.Moved.{Moved}
use Rattle.meaning.specs.declared.refusal.Refusal.{Refusal}
use Rattle.meaning.specs.Calls.{unless, move_answer}
use Rattle.meaning.specs.Moves.{move_refused}
use Rattle.balances.specs.Books.{books_of}
use Rattle.image.specs.Image.{image_of}
use Rattle.moves.specs.MovesOn.{MovesOn}
use Rattle.steps.specs.Written.{journal_of}
use Rattle.book.specs.States.{policy_of}
use Rattle.book.proofs.Calling.{refused_by, taken_by, move_within, moved_on}
use Rattle.book.proofs.Running.{running, reads, kept_on}
use Rattle.book.proofs.book.Book.move_to.Goals as goal

pub invariant_of-self : goal.invariant_of-self
invariant_of-self g c =
    let j = g.J.Journal in
    let p = g.P.Policy in
    let b = c.args.self.now in
    let R = running j p b c.in_ok-require_read.ensures in
    let K = journal_of j b.journal in
    let e = c.in_err-moved.ensures (policy_of j p b) K (reads j p b R) R.runs.tables in
    let not = refused_by (move_refused K b.moment c.args.moment (length c.args.lapses.now)) (move_answer K b.moment c.args.moment) _ e.answer in
    let kept = kept_on j p b R c.move_on.new.balances b.moment (omega arith) R.runs.bounded (e.tables ∙ ap (λ o. image_of K (unless o c.args.moment b.moment)) not) in
    record { read = kept.read; begun = kept.begun; in_time = kept.in_time; tables = kept.tables }

pub returns-in_err-moved : goal.returns-in_err-moved
returns-in_err-moved g c =
    let j = g.J.Journal in
    let p = g.P.Policy in
    let b = c.args.self.now in
    let R = running j p b c.in_ok-require_read.ensures in
    let K = journal_of j b.journal in
    let e = c.in_err-moved.ensures (policy_of j p b) K (reads j p b R) R.runs.tables in
    let q = err_from_is_err_and c.from_residual-in_err-moved.result c.from_residual-in_err-moved.ensures.1 in
    let not = refused_by (move_refused K b.moment c.args.moment (length c.args.lapses.now)) (move_answer K b.moment c.args.moment) _ e.answer in
    moved_on j p b _ refl refl R c.args.moment c.args.lapses.now c.move_on.new.lapses c.from_residual-in_err-moved.result (books_of c.move_on.new.balances)
    (subst (λ (r : Result Moved Refusal). MovesOn K b.moment c.args.moment c.args.lapses.now r c.move_on.new.lapses (books_of c.move_on.new.balances)) (sym (q.1 ∙ ap Err q.2)) e)
    refl (sym (ap (λ o. unless o c.args.moment b.moment) not))

pub invariant_of-self-2 : goal.invariant_of-self-2
invariant_of-self-2 g c =
    let j = g.J.Journal in
    let p = g.P.Policy in
    let b = c.args.self.now in
    let R = running j p b c.in_ok-require_read.ensures in
    let K = journal_of j b.journal in
    let e = c.in_ok-moved.ensures (policy_of j p b) K (reads j p b R) R.runs.tables in
    let not = taken_by (move_refused K b.moment c.args.moment (length c.args.lapses.now)) (move_answer K b.moment c.args.moment) _ e.answer in
    let w = move_within K b.moment c.args.moment (length c.args.lapses.now) not in
    let kept = kept_on j p b R c.move_on.new.balances c.args.moment w.0 w.1 (e.tables ∙ ap (λ o. image_of K (unless o c.args.moment b.moment)) not) in
    record { read = kept.read; begun = kept.begun; in_time = kept.in_time; tables = kept.tables }

pub returns : goal.returns
returns g c =
    let j = g.J.Journal in
    let p = g.P.Policy in
    let b = c.args.self.now in
    let R = running j p b c.in_ok-require_read.ensures in
    let K = journal_of j b.journal in
    let e = c.in_ok-moved.ensures (policy_of j p b) K (reads j p b R) R.runs.tables in
    let not = taken_by (move_refused K b.moment c.args.moment (length c.args.lapses.now)) (move_answer K b.moment c.args.moment) _ e.answer in
    moved_on j p b _ refl refl R c.args.moment c.args.lapses.now c.move_on.new.lapses _ (books_of c.move_on.new.balances) e refl (sym (ap (λ o. unless o c.args.moment b.moment) not))
