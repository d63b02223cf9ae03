-- What the tables of a book say.
use Rattle.balances.specs.declared.balances.Balances.{Balances}
use Rattle.balances.specs.Shown.{shown}
pub use Rattle.balances.specs.Contents.{Books, Few, Fit, empty, no_row, no_reservation, row_place, held_place, row_asked, held_asked, with_row, line_of, opened_with}

abbrev pub books_of : Balances → Books
books_of b = shown b.tables
