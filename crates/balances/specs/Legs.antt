-- What legs make of the tables.
use Rattle.std.specs.Prelude.{ℕ, cond, List, [], ◌∷◌, ◌++◌, length, ◌==◌, nat_lt, slice_index_or, slice_set}
use Rattle.meaning.specs.declared.reservation.Reservation.{Reservation}
use Rattle.meaning.specs.declared.fate.Event.{Event}
use Rattle.meaning.specs.declared.fate.Event.TheVariants.{Lapse}
use Rattle.meaning.specs.Limits.{most_reservations}
use Rattle.meaning.specs.Rows.{debited, credited, debit_released, credit_released, met}
use Rattle.ordered.specs.declared.due.Due.{Due}
use Rattle.ordered.specs.Orders.{due_before}
use Rattle.ordered.specs.Rows.{without}
use Rattle.balances.specs.Queues.{joined}
use Rattle.balances.specs.Contents.{Books, row_place, held_place, with_row, no_row, no_reservation}
use Rattle.balances.specs.Noted.{Trace}

-- what is at hand before a leg between two accounts, and on the reservation at a place
abbrev pub tracing : (debit credit slot : ℕ) → Books → Trace
tracing d c i k = record {
  debit = row_place k d;
  debit_was = slice_index_or k.rows (row_place k d) no_row;
  credit = row_place k c;
  credit_was = slice_index_or k.rows (row_place k c) no_row;
  slot = i;
  slot_was = slice_index_or k.held i no_reservation;
  reserved_was = length k.held;
  highest_was = k.highest;
}

-- p more pending and q more posted, from one account to another
abbrev pub moved : (debit credit p q : ℕ) → Books → Books
moved d c p q k = with_row (credited p q) (row_place k c) (with_row (debited p q) (row_place k d) k)

-- an amount leaves what is pending between two accounts, and a part of it is posted
abbrev pub released : (debit credit amount part : ℕ) → Books → Books
released d c a b k = with_row (credit_released a b) (row_place k c) (with_row (debit_released a b) (row_place k d) k)

abbrev pub numbered : ℕ → Books → Books
numbered n k = record k { highest = n }

-- one reservation more, in its place in the queue if it has a deadline, unless there are as many as there may be
abbrev pub due_of : Reservation → Due
due_of R = record { deadline = R.deadline; number = R.number }

abbrev pub waits : Reservation → List Due → List Due
waits R q = cond (R.deadline == 0) q (joined (due_of R) q)

abbrev pub with_held : Reservation → Books → Books
with_held R k = cond (nat_lt (length k.held) most_reservations) (record k { held = k.held ++ (R ∷ []); queue = waits R k.queue }) k

-- the reservation at a place meets an event
abbrev pub with_fate : Event → ℕ → Books → Books
with_fate e i k = record k { held = slice_set k.held i (met e (slice_index_or k.held i no_reservation)) }

-- a key leaves the queue
abbrev pub without_due : Due → Books → Books
without_due d k = record k { queue = without due_before d k.queue }

-- the reservation at a place ends: its amount leaves what is pending, a part of it is posted
abbrev pub ended : Event → (place part : ℕ) → Books → Books
ended e i z k =
    with_fate e i (released (slice_index_or k.held i no_reservation).debit (slice_index_or k.held i no_reservation).credit (slice_index_or k.held i no_reservation).amount z k)

-- The legs.

abbrev pub transferred : (number debit credit amount : ℕ) → Books → Books
transferred n d c z k = numbered n (moved d c 0 z k)

abbrev pub reserved : Reservation → Books → Books
reserved R k = numbered R.number (with_held R (moved R.debit R.credit R.amount 0 k))

-- a post or a void of the reservation at a place
abbrev pub closed : Event → (number place part : ℕ) → Books → Books
closed e n i z k = numbered n (without_due (due_of (slice_index_or k.held i no_reservation)) (ended e i z k))

-- the reservation of a key lapses
abbrev pub lapsed : Due → Books → Books
lapsed d k = without_due d (ended Lapse (held_place k d.number) 0 k)
