-- The keys of reservations and of accounts, in the orders that the book's meaning has.
use Rattle.std.specs.Prelude.{◌≡◌, List, map}
use Rattle.meaning.specs.declared.opening.Opening.{Opening}
use Rattle.meaning.specs.Basics.{in_order}
use Rattle.meaning.specs.Given.{Reserved}
use Rattle.meaning.specs.Moves.{sooner}
use Rattle.meaning.specs.Listing.{earlier}
use Rattle.ordered.specs.declared.due.Due.{Due}
use Rattle.ordered.specs.declared.line.Line.{Line}
use Rattle.ordered.specs.Orders.{due_before, line_before}

abbrev pub due_of : Reserved → Due
due_of R = record { deadline = R.until; number = R.number }

abbrev pub line_of : Opening → Line
line_of A = record { ledger = A.ledger; label = A.label; number = A.number }

-- the keys of a list in order are its keys in order
pub record KeysAgree : Type 0 where
  pub dues : (rs : List Reserved) → map due_of (in_order sooner rs) ≡ in_order due_before (map due_of rs)
  pub lines : (os : List Opening) → map line_of (in_order earlier os) ≡ in_order line_before (map line_of os)
