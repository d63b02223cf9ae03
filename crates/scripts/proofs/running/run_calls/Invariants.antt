use Rattle.std.proofs.Common.{◌≤◌, ◌-◌, length}
use Rattle.scripts.specs.Readers.{course_at}
use Rattle.book.specs.States.{policy_of, state_of}
use Rattle.scripts.proofs.Underway.{Underway}
use Rattle.scripts.proofs.running.run_calls.Given as goal

abbrev pub invariant-loop-call : goal.invariant-loop-call
invariant-loop-call g l =
    (l._call ≤ length l.fn.calls)
    × Underway g.J.Journal g.P.Policy l.fn.book l.fn.page (course_at (policy_of g.J.Journal g.P.Policy l.fn.book) (length l.fn.page.bytes.now) (length l.fn.calls) (state_of g.J.Journal g.P.Policy l.fn.book) l.fn.calls l.fn.page.next) (length l.fn.calls - l._call) l.reader.rest.now l.book l.page
