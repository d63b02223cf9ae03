use Rattle.std.proofs.Common.{◌≡◌, ◌≤◌, ◌-◌, length, take}
use Rattle.scripts.specs.Forms.{orders_at}
use Rattle.scripts.specs.Limits.{most_orders}
use Rattle.scripts.proofs.Batches.{before}
use Rattle.scripts.proofs.step.read_orders.Given as goal

abbrev pub invariant-loop-place : goal.invariant-loop-place
invariant-loop-place l =
    (length l.list ≡ most_orders) × ((l.place ≤ l.count) × (before (take l.place l.list) (orders_at (l.count - l.place) l.reader.rest.now) ≡ orders_at l.count l.fn.reader.rest.now))
