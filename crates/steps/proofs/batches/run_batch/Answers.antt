use Rattle.std.proofs.Common.{◌≡◌, suc, ◌+◌, ◌-◌, ◌<◌, false, length, get_or, take, drop, set, replicate, sym, ap, ◌∙◌, subst, arith, Err}
use Rattle.std.proofs.lemmas.List.{length-drop, length-take-le, get_or-drop}
use Rattle.meaning.specs.declared.order.Order.{Order}
use Rattle.meaning.specs.declared.order.Action.TheVariants.{Transfer}
use Rattle.meaning.specs.declared.refusal.Refusal.TheVariants.{ChainRefused, ChainUnfinished}
use Rattle.meaning.specs.Batches.{unfinished}
use Rattle.laws.specs.Steps.{Fronted}
use Rattle.steps.proofs.Partway.{partway_mark, partway_chain, partway_all, partway_same}
use Rattle.steps.proofs.Splits.{front_fronted, front_finished}
use Rattle.steps.proofs.batches.run_batch.Goals as goal
use Rattle.steps.proofs.batches.run_batch.Goals.{then-not-order, else-not-order}

abbrev none : Order
none = record { number = 0; linked = false; action = Transfer 0 0 0 }

pub loop-i-preserved : goal.loop-i-preserved
loop-i-preserved g c =
    let j = g.J.Journal in
    let policy = g.P.Policy.admits c.args.policy.now in
    let T = c.args.moment in
    let x = c.args.journal.now in
    let os = c.args.orders.now in
    let ans0 = c.args.answers.now in
    let i = c.loop-i.i in
    let start = c.loop-i.start in
    let inv = c.loop-i.invariant in
    let lt : i < length os = c.loop-i-test.true in
    let rest = length-drop start os in
    elim c.if-not-order.branch [
      | then-not-order w ↦
          let end : (get_or os i none).linked ≡ false = w.if-not-order.true in
          let e = w.run_chain-taken.ensures in
          let part = length-take-le (i + 1 - start) (drop start os) (omega arith) in
          let few = e.few in
          let ans = c.loop-i.answers in
          let long = length-take-le (i + 1 - start) (drop start ans) (omega (arith, length-drop start ans, c.loop-i.auto.answers)) in (
            omega (arith, w.start-is),
            omega (arith, w.start-is, w.taken-is, part),
            (λ tied.
                let W = inv.2 tied in
                let k : suc (i - start) ≡ i + 1 - start = omega arith in
                let there : get_or (drop start os) (i - start) none ≡ get_or os i none = let m : start + (i - start) ≡ i = omega arith in get_or-drop start os (i - start) none ∙ ap (λ n. get_or os n none) m in
                let front = subst (λ n. Fronted (take n (drop start os))) k (front_fronted (i - start) (drop start os) W.marked) in
                let finished = ap (λ n. unfinished (take n (drop start os))) (sym k) ∙ front_finished (i - start) (drop start os) none (omega arith) (ap (λ (o : Order). o.linked) there ∙ end) in
                let C = e.chain W.tied front finished (long ∙ sym part) in
                partway_same j policy T x os ans0 (i + 1) (i + 1) _ (c.loop-i.taken + w.run_chain-taken.result) _ _ _ _ _ _ _ w.start-is w.taken-is w.answers-is w.balances-is w.journal-is
                (partway_chain j policy T x os ans0 start i c.loop-i.taken c.loop-i.answers c.loop-i.balances c.loop-i.journal none inv.0 lt W end (omega arith) w.run_chain-taken.result w.run_chain-taken.new.answers w.run_chain-taken.new.balances w.run_chain-taken.new.journal (w.run_chain-taken.auto.answers ∙ long) C)),
          )
      | else-not-order w ↦ (
        omega (arith, w.start-is),
        omega (arith, w.start-is, w.taken-is),
        (λ tied.
            partway_same j policy T x os ans0 (i + 1) start _ c.loop-i.taken _ _ _ _ _ _ _ w.start-is w.taken-is w.answers-is w.balances-is w.journal-is
            (partway_mark j policy T x os ans0 start i c.loop-i.taken c.loop-i.answers c.loop-i.balances c.loop-i.journal none inv.0 lt (inv.2 tied) w.if-not-order.false)),
      )
    ]

pub returns : goal.returns
returns g c = λ tied.
    let inv = c.loop-i.invariant in
    let os = c.args.orders.now in
    let start = c.loop-i.start in
    let ans = c.loop-i.answers in
    let long = length-take-le (length os - start) (drop start ans) (omega (arith, length-drop start ans, c.loop-i.auto.answers)) in
    partway_all g.J.Journal (g.P.Policy.admits c.args.policy.now) c.args.moment c.args.journal.now os c.args.answers.now c.if-answers-orders.false start c.loop-i.i c.loop-i.taken c.loop-i.answers c.refuse_unfinished.new.answers c.loop-i.balances c.loop-i.journal (omega arith) (omega arith) c.loop-i.auto.answers (inv.2 tied) (c.refuse_unfinished.ensures ∙ ap (λ m. set (replicate m (Err ChainRefused)) (m - 1) (Err ChainUnfinished)) long)
