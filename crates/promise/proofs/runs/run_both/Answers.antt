use Rattle.std.proofs.Common.{◌∙◌, sym, refl, ap}
use Rattle.meaning.proofs.Agreeing.{same_policy}
use Rattle.promise.proofs.Abreast.{abreast_more}
use Rattle.promise.proofs.Turns.{same_then, along_more, along_none}
use Rattle.promise.proofs.runs.run_both.Goals as goal

pub loop-next-init : goal.loop-next-init
loop-next-init g c = record {
  mine_same = record { told = refl; answers = refl; lapses = refl; bytes = refl };
  theirs_same = record { told = refl; answers = refl; lapses = refl; bytes = refl };
  first = along_none g.J.Journal g.P.Policy c.args.orders.now c.args.first.now c.args.mine.now c.args.calls.now;
  second = along_none g.K.Journal g.Q.Policy c.args.orders.now c.args.second.now c.args.theirs.now c.args.calls.now;
  together = λ same agree. record { agree = agree; leads = λ w rest. rest };
}

pub loop-next-preserved : goal.loop-next-preserved
loop-next-preserved g c =
    let j = g.J.Journal in
    let p = g.P.Policy in
    let k = g.K.Journal in
    let q = g.Q.Policy in
    let os = c.args.orders.now in
    let cs = c.args.calls.now in
    let i = c.loop-next.next-index in
    let lt = c.loop-next-test.true in
    let inv = c.loop-next.invariant in
    let one = c.call.ensures in
    let two = c.call-in-loop-next.ensures in
    record {
      mine_same = same_then c.args.mine.now c.loop-next.mine c.call.new.desk inv.mine_same one.same;
      theirs_same = same_then c.args.theirs.now c.loop-next.theirs c.call-in-loop-next.new.desk inv.theirs_same two.same;
      first = along_more j p os c.args.first.now c.args.mine.now cs i _ c.loop-next.first c.call.new.book c.loop-next.mine c.call.new.desk lt inv.first one.made;
      second = along_more k q os c.args.second.now c.args.theirs.now cs i _ c.loop-next.second c.call-in-loop-next.new.book c.loop-next.theirs c.call-in-loop-next.new.desk lt inv.second two.made;
      together = λ same agree. abreast_more j p k q os cs i _ _ _ _ lt (ap q.admits inv.second.policy ∙ (same_policy _ _ (g.met.Q.Policy.lawful c.args.second.now.policy) (g.met.P.Policy.lawful c.args.first.now.policy) same ∙ sym (ap p.admits inv.first.policy))) (inv.together same agree) (record { first = one.made; second = two.made });
    }
