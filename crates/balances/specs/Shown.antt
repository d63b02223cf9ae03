-- What plain tables say.
use Rattle.std.specs.Prelude.{map}
use Rattle.meaning.specs.Rows.{standing_of}
use Rattle.ordered.specs.Items.{items}
use Rattle.balances.specs.declared.plain.Tables.{Tables}
use Rattle.balances.specs.Contents.{Books}

abbrev pub shown : Tables → Books
shown t = record {
  rows = map standing_of (items t.accounts);
  held = items t.reservations;
  highest = t.highest;
  queue = items t.queue;
  lines = items t.lines;
}
