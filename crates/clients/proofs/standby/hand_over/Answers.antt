use Rattle.std.proofs.Common.{ap}
use Rattle.promise.specs.Made.{with_desk}
use Rattle.clients.proofs.TakesOver.{hands_over}
use Rattle.clients.proofs.standby.hand_over.Goals as goal

pub returns-clause-handed : goal.returns-clause-handed
returns-clause-handed c =
    hands_over _ _ _ _ c.new.result c.season.result c.new.ensures.list c.new.ensures.spare c.season.ensures c.written-standby.result c.season-2.result c.season-2.ensures c.args.orders.now c.args.past.now c.args.further.now c.written-standby.ensures.entries c.written-standby.ensures.spare
    _ c.args.mine.now c.args.theirs.now c.history.new.before _ c.history.result.2 (ap (with_desk _) c.new-before.ensures) c.history.ensures.history
