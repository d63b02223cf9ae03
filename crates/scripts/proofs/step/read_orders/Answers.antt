use Rattle.std.proofs.Common.{rules, ◌≡◌, suc, ◌+◌, ◌-◌, take, ap, sym, ◌∙◌, arith}
use Rattle.std.proofs.lemmas.List.{take_more_set}
use Rattle.scripts.specs.Forms.{orders_at}
use Rattle.scripts.proofs.Batches.{before, one_more, cut_short}
use Rattle.scripts.proofs.step.read_orders.Goals as goal

pub returns-in_err-list : goal.returns-in_err-list
returns-in_err-list c =
    let rest = c.loop-place.reader.rest.now in
    let read = take c.loop-place.place c.loop-place.list in
    let left : c.args.count - c.loop-place.place ≡ suc (c.args.count - (c.loop-place.place + 1)) = omega (arith, c.loop-place-test.true) in
    let e = cut_short read _ _ rest (sym c.in_err-list.ensures.order) ∙ ap (λ n. before read (orders_at n rest)) (sym left) ∙ c.loop-place.invariant.1.1 in
    search (rules, e)

pub loop-place-preserved : goal.loop-place-preserved
loop-place-preserved c =
    let rest = c.loop-place.reader.rest.now in
    let read = take c.loop-place.place c.loop-place.list in
    let left : c.args.count - c.loop-place.place ≡ suc (c.args.count - (c.loop-place.place + 1)) = omega (arith, c.loop-place-test.true) in
    (search (rules, c.loop-place.invariant.0), (omega (arith, c.loop-place-test.true), rw (take_more_set c.loop-place.list c.loop-place.place c.in_ok-list.field-0 (omega (arith, c.loop-place-test.true, c.loop-place.invariant.0, c.requires)), c.in_ok-list.ensures.rest) (one_more read _ _ rest (sym c.in_ok-list.ensures.order) ∙ ap (λ n. before read (orders_at n rest)) (sym left) ∙ c.loop-place.invariant.1.1)))
