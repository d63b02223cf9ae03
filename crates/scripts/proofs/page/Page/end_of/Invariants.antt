use Rattle.std.proofs.Common.{◌≡◌, ◌+◌, ◌^◌, ◌<◌, length, take}
use Rattle.scripts.specs.Pages.{joined_parts}
use Rattle.scripts.proofs.page.Page.end_of.Given as goal

abbrev pub invariant-loop-part : goal.invariant-loop-part
invariant-loop-part l = (l.end < 2 ^ 64) × (l.end ≡ l.fn.self.next + length (joined_parts (take l.part-index l.parts)))
