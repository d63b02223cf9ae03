use Rattle.std.proofs.Common.{◌≡◌, ◌*◌, length, take}
use Rattle.std.specs.Prelude.{flat_map}
use Rattle.scripts.specs.Told.{as_4}
use Rattle.scripts.proofs.showing.bytes_of.Given as goal

abbrev pub invariant-loop-place : goal.invariant-loop-place
invariant-loop-place l = (length l.bytes ≡ 1200) × (take (4 * l.place) l.bytes ≡ flat_map as_4 (take l.place l.numbers))
