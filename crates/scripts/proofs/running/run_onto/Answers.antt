use Rattle.std.proofs.Common.{◌≡◌, ℕ, ◌+◌, cond, List, ◌++◌, length, drop, Ok, Err, ap, subst, ◌∙◌, zero-add, arith}
use Rattle.std.specs.Prelude.{nat_le}
use Rattle.meaning.specs.Calls.{over}
use Rattle.book.specs.States.{begins}
use Rattle.scripts.specs.declared.bad.Bad.TheVariants.{Output}
use Rattle.scripts.specs.Courses.{Course, script_end, with_end}
use Rattle.scripts.specs.Ended.{went, end_told, told}
use Rattle.scripts.specs.Forms.{then_do}
use Rattle.scripts.specs.Made.{Done, went_on}
use Rattle.scripts.specs.Pages.{laid}
use Rattle.scripts.specs.Readers.{course_at}
use Rattle.scripts.specs.Runs.{policy_named, entries_found, spare_found, memory_left, told_last}
use Rattle.scripts.proofs.Reading.{as_listed}
use Rattle.scripts.proofs.running.run_onto.Goals as goal

pub returns-clause-ran : goal.returns-clause-ran
returns-clause-ran c cs read =
    let h = c.args.head.now in
    let m = c.args.memory.now in
    let o = c.args.output.now in
    let calls = c.args.calls.now in
    let page = c.new-page.result in
    let fresh = c.new-page.ensures in
    let page' = c.run_under-ended.new.page in
    let r = c.run_under-ended.result in
    let R = c.run_under-ended.ensures in
    let P = policy_named h.policy in
    let s = begins (entries_found m h.used h.journal) (spare_found m h.used h.journal) P in
    let w = went h cs m o in
    let e : went_on P m h.used h.journal calls page ≡ w =
    ap (λ bs. course_at P (length bs) (length calls) s calls page.next) fresh.bytes ∙ ap (course_at P (length o) (length calls) s calls) fresh.next ∙ as_listed P (length o) (length calls) calls cs s 0 read in
    let D = subst (λ (c : Course). Done page c (told_last m h.used h.journal c.new) 0 r page') e R.done in
    let E = end_told h cs m o in
    let long : page.next + length w.told + (length E + 0) ≡ length w.told + length E = omega (arith, fresh.next) in
    let ended : r ≡ script_end (length o) w E = D.answer ∙ ap (λ n. then_do w.ended (λ _. cond (nat_le n (length page.bytes.now)) (Ok tt) (Err Output))) long ∙ ap (λ (bs : List ℕ). script_end (length bs) w E) fresh.bytes in
    let all = with_end r w.told E in
    let same : all ≡ told (Ok (h, cs)) m o = ap (λ r. with_end r w.told E) ended in
    let at_front : laid page.next all page.bytes.now ≡ over all o = ap (λ n. laid n all page.bytes.now) fresh.next ∙ ap (laid 0 all) fresh.bytes ∙ ap (λ n. all ++ drop n o) (zero-add (length all)) in
    record {
      ended = ended;
      written = c.written-written.ensures ∙ D.next ∙ omega (arith, fresh.next) ∙ ap length same;
      memory = R.memory ∙ ap (λ (c : Course). memory_left m h.used h.journal c.new) e;
      output = c.give_back.ensures.bytes ∙ D.bytes ∙ at_front ∙ ap (λ xs. over xs o) same;
    }
