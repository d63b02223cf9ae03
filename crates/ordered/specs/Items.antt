-- What a row says: the items in its first places, and nothing of what lies behind them.
use Rattle.std.specs.Prelude.{ℕ, List, take}
use Rattle.ordered.specs.declared.copy_row.CopyRow.{CopyRow}

abbrev pub items : {T : Type 0} {N : ℕ} → CopyRow T N → List T
items r = take r.len r.places
