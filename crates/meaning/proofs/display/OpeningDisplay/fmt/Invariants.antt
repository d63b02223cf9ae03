use Rattle.std.proofs.Common.{◌++◌, take}
use Rattle.std.specs.Fmt.{HasWritten, IsPlainFormatter}
use Rattle.meaning.specs.Printed.{opening_start, letters}
use Rattle.meaning.proofs.display.OpeningDisplay.fmt.Given as goal

abbrev pub invariant-loop-byte : goal.invariant-loop-byte
invariant-loop-byte g l = IsPlainFormatter l.fn.f → HasWritten g.W.Write.write_str_gives l.fn.f (opening_start l.self ++ letters (take l.byte-index l.byte-items)) l.f
