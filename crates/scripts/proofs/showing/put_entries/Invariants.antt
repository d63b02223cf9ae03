use Rattle.std.proofs.Common.{◌≡◌, ◌+◌, length, take}
use Rattle.std.specs.Prelude.{flat_map}
use Rattle.layout.specs.Layout.{bytes_of}
use Rattle.scripts.specs.Pages.{laid}
use Rattle.scripts.proofs.showing.put_entries.Given as goal

abbrev pub invariant-loop-place : goal.invariant-loop-place
invariant-loop-place g l =
    let so_far = flat_map bytes_of (take l.place (g.J.Journal.entries l.fn.journal)) in
    (l.page.bytes.ghost_name ≡ l.fn.page.bytes.ghost_name)
    × ((l.page.bytes.now ≡ laid l.fn.page.next so_far l.fn.page.bytes.now)
    × (l.page.next ≡ l.fn.page.next + length so_far))
