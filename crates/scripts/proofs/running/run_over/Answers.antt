use Rattle.std.proofs.Common.{◌≡◌, length, ap, sym, subst, ◌∙◌}
use Rattle.steps.specs.Written.{journal_of, Wrote}
use Rattle.book.specs.States.{policy_of, state_of}
use Rattle.meaning.specs.Calls.{State}
use Rattle.meaning.specs.Rules.{Policy as Admission}
use Rattle.promise.specs.Takeovers.{beginning}
use Rattle.scripts.specs.Made.{MadeAll}
use Rattle.scripts.specs.Readers.{course_at}
use Rattle.scripts.specs.Told.{told_journal}
use Rattle.scripts.proofs.Endings.{shown_behind}
use Rattle.scripts.proofs.running.run_over.Goals as goal

pub returns : goal.returns
returns g c =
    let j = g.J.Journal in
    let p = g.P.Policy in
    let x = c.args.journal in
    let page = c.args.page.now in
    let b = c.create-book.result in
    let made = c.create-book.ensures in
    let f = λ (q : Admission) (s : State). course_at q (length page.bytes.now) (length c.args.calls.now) s c.args.calls.now page.next in
    let same_policy : policy_of j p b ≡ p.admits c.args.policy = ap p.admits made.policy in
    let same_state : state_of j p b ≡ beginning j (p.admits c.args.policy) x = λ i. record { journal = journal_of j (made.journal i); moment = made.moment i; spare = j.spare (made.journal i) } in
    let same_course : f (policy_of j p b) (state_of j p b) ≡ f (p.admits c.args.policy) (beginning j (p.admits c.args.policy) x) = ap (λ q. f q (state_of j p b)) same_policy ∙ ap (f (p.admits c.args.policy)) same_state in
    let M = subst (λ w. MadeAll j p b w page c.run_calls-ended.result c.run_calls-ended.new.book c.run_calls-ended.new.page) same_course c.run_calls-ended.ensures in
    let w = f (p.admits c.args.policy) (beginning j (p.admits c.args.policy) x) in
    let x' = c.close-journal.result.0 in
    let end = c.show_end-ended.ensures in
    record {
      wrote = subst (λ v. Wrote j x w.new v) (sym (ap (λ r. r.0) c.close-journal.ensures)) (subst (λ v. Wrote j v w.new c.run_calls-ended.new.book.journal) made.journal M.after.journal);
      done = shown_behind page w (told_journal (j.entries x') (j.spare x')) 8 c.run_calls-ended.new.page c.show_end-ended.new.page c.run_calls-ended.result c.show_end-ended.result M.bytes M.next M.fits M.ended (end.same ∙ M.same) end.through end.cut;
    }
