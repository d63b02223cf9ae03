use Rattle.promise.proofs.Turns.{same_then, along_more}
use Rattle.promise.proofs.runs.run_calls.Goals as goal

pub loop-next-preserved : goal.loop-next-preserved
loop-next-preserved g c =
    let e = c.call.ensures in
    let inv = c.loop-next.invariant in (
      same_then c.args.desk.now c.loop-next.desk c.call.new.desk inv.0 e.same,
      along_more g.J.Journal g.P.Policy c.args.orders.now c.args.book.now c.args.desk.now c.args.calls.now c.loop-next.next-index _ c.loop-next.book c.call.new.book c.loop-next.desk c.call.new.desk c.loop-next-test.true inv.1 e.made,
    )
