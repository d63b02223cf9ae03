use Rattle.std.proofs.Common.{rules, ◌≡◌, ℕ, suc, ◌+◌, ◌-◌, List, length, Err, ap, sym, ◌∙◌, arith}
use Rattle.book.specs.States.{policy_of, state_of}
use Rattle.scripts.specs.Readers.{course_at}
use Rattle.scripts.proofs.Underway.{begun, none_left, none_more, not_read, one_more, last_one}
use Rattle.scripts.proofs.running.run_calls.Goals as goal

pub loop-call-init : goal.loop-call-init
loop-call-init g c =
    let b = c.args.book.now in
    let f = λ (k : ℕ) (bs : List ℕ). course_at (policy_of g.J.Journal g.P.Policy b) (length c.args.page.now.bytes.now) k (state_of g.J.Journal g.P.Policy b) bs c.args.page.now.next in
    let all : length c.args.calls.now - 0 ≡ length c.args.calls.now = omega arith in
    (omega arith, begun _ _ _ _ _ _ _ c.requires (ap (λ k. f k c.new-reader.result.rest.now) all ∙ ap (f (length c.args.calls.now)) c.new-reader.ensures))

pub returns-then-is_done : goal.returns-then-is_done
returns-then-is_done g c =
    let left : length c.args.calls.now - c.loop-call._call ≡ suc (length c.args.calls.now - (c.loop-call._call + 1)) = omega (arith, c.loop-call-test.true) in
    none_left _ _ _ _ _ _ _ _ _ _ left (sym c.if-is_done.ensures) c.loop-call.invariant.1

pub returns-in_err-step : goal.returns-in_err-step
returns-in_err-step g c =
    let left : length c.args.calls.now - c.loop-call._call ≡ suc (length c.args.calls.now - (c.loop-call._call + 1)) = omega (arith, c.loop-call-test.true) in
    let e : c.from_residual.result ≡ Err c.in_err-step.field-0.0 = search rules in
    rw e (not_read _ _ _ _ _ _ _ _ _ _ _ left (sym c.if-is_done.ensures) (sym c.in_err-step.ensures.call) c.loop-call.invariant.1)

pub returns-in_err-make : goal.returns-in_err-make
returns-in_err-make g c =
    let left : length c.args.calls.now - c.loop-call._call ≡ suc (length c.args.calls.now - (c.loop-call._call + 1)) = omega (arith, c.loop-call-test.true) in
    let e : c.from_residual-in_err-make.result ≡ Err c.in_err-make.field-0.0 = search rules in
    rw (e ∙ sym c.in_err-make.was) (last_one _ _ _ _ _ _ _ _ _ _ _ _ left c.loop-call.invariant.1 (sym c.if-is_done.ensures) (sym c.in_ok-step.ensures.call) _ _ _ c.make.ensures _ c.in_err-make.was)

pub loop-call-preserved : goal.loop-call-preserved
loop-call-preserved g c =
    let left : length c.args.calls.now - c.loop-call._call ≡ suc (length c.args.calls.now - (c.loop-call._call + 1)) = omega (arith, c.loop-call-test.true) in
    (omega (arith, c.loop-call-test.true), one_more _ _ _ _ _ _ _ _ _ _ _ _ left c.loop-call.invariant.1 (sym c.if-is_done.ensures) (sym c.in_ok-step.ensures.call) _ _ _ c.make.ensures c.in_ok-make.was)

pub returns : goal.returns
returns g c = none_more _ _ _ _ _ _ _ _ _ (omega (arith, c.loop-call-test.false, c.loop-call.invariant.0)) c.loop-call.invariant.1
