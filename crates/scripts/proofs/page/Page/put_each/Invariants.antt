use Rattle.std.proofs.Common.{◌≡◌, ◌+◌, length, take}
use Rattle.scripts.specs.Pages.{joined_parts, laid}
use Rattle.scripts.proofs.page.Page.put_each.Given as goal

abbrev pub invariant-loop-part : goal.invariant-loop-part
invariant-loop-part l =
    let so_far = joined_parts (take l.part-index l.parts) in
    (l.self.bytes.ghost_name ≡ l.fn.self.bytes.ghost_name)
    × ((l.self.bytes.now ≡ laid l.fn.self.next so_far l.fn.self.bytes.now)
    × (l.self.next ≡ l.fn.self.next + length so_far))
