-- The keys of the listing's lines that are still to come.
use Rattle.std.specs.Prelude.{List, drop}
use Rattle.ordered.specs.declared.line.Line.{Line}
use Rattle.balances.specs.Books.{books_of}
use Rattle.listing.specs.declared.keys.Keys.{Keys}

abbrev pub to_come : Keys → List Line
to_come s = drop s.place (books_of s.balances.now).lines
