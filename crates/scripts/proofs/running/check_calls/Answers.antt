use Rattle.std.proofs.Common.{rules, ◌≡◌, suc, ◌+◌, ◌-◌, ap, sym, ◌∙◌, arith}
use Rattle.scripts.specs.Forms.{calls_at}
use Rattle.scripts.specs.Readers.{whether}
use Rattle.scripts.proofs.Calls.{whether_more, whether_cut}
use Rattle.scripts.proofs.running.check_calls.Goals as goal

pub returns-in_err-read_step : goal.returns-in_err-read_step
returns-in_err-read_step c =
    let rest = c.loop-call.reader.rest.now in
    let left : c.args.most - c.loop-call._call ≡ suc (c.args.most - (c.loop-call._call + 1)) = omega (arith, c.loop-call-test.true) in
    let e = sym (whether_cut _ rest _ (sym c.if-is_done.ensures) (sym c.in_err-read_step.ensures.call)) ∙ ap (λ n. whether (calls_at n rest)) (sym left) ∙ c.loop-call.invariant.1 in
    search (rules, e)

pub loop-call-preserved : goal.loop-call-preserved
loop-call-preserved c =
    let rest = c.loop-call.reader.rest.now in
    let left : c.args.most - c.loop-call._call ≡ suc (c.args.most - (c.loop-call._call + 1)) = omega (arith, c.loop-call-test.true) in
    (omega (arith, c.loop-call-test.true), sym (whether_more _ rest _ (sym c.if-is_done.ensures) (sym c.in_ok-read_step.ensures.call)) ∙ ap (λ n. whether (calls_at n rest)) (sym left) ∙ c.loop-call.invariant.1)
