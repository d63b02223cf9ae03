-- What the tables say: the accounts and reservations in the order in which they came, the highest number, the
-- queue of deadlines and the keys of the listing's lines.
use Rattle.std.specs.Prelude.{ℕ, ◌≤◌, cond, List, [], ◌∷◌, ◌++◌, length, Option, nat_lt, slice_index_or, slice_set, slice_get, ◌==◌}
use Rattle.std.specs.List.{position_or_len}
use Rattle.meaning.specs.declared.reservation.Reservation.{Reservation}
use Rattle.meaning.specs.declared.fate.Fate.TheVariants.{Live}
use Rattle.meaning.specs.Limits.{most_accounts, most_reservations}
use Rattle.meaning.specs.declared.standing.Standing.{Standing}
use Rattle.ordered.specs.declared.due.Due.{Due}
use Rattle.ordered.specs.declared.line.Line.{Line}
use Rattle.balances.specs.Queues.{listed}

pub record Books : Type 0 where
  pub rows : List Standing
  pub held : List Reservation
  pub highest : ℕ
  pub queue : List Due
  pub lines : List Line

-- no more accounts, and no more lines of the listing, than there is room for
abbrev pub Few : Books → Type 0
Few k = (length k.rows ≤ most_accounts) × (length k.lines ≤ most_accounts)

-- no more reservations, and no more keys of deadlines, than there is room for
abbrev pub Fit : Books → Type 0
Fit k = (length k.held ≤ most_reservations) × (length k.queue ≤ most_reservations)

abbrev pub empty : Books
empty = record { rows = []; held = []; highest = 0; queue = []; lines = [] }

-- what stands at no place; the label is a hyphen
abbrev pub no_row : Standing
no_row = record { account = record { number = 0; ledger = 0; class = 0; limit = 0; label = 0x2d20202020202020 }; debits_pending = 0; debits_posted = 0; credits_pending = 0; credits_posted = 0 }

abbrev pub no_reservation : Reservation
no_reservation = record { number = 0; debit = 0; credit = 0; amount = 0; deadline = 0; fate = Live }

-- the place of an account and of a reservation, or how many there are
abbrev pub row_place : Books → ℕ → ℕ
row_place k n = position_or_len (λ (s : Standing). s.account.number == n) k.rows

abbrev pub held_place : Books → ℕ → ℕ
held_place k n = position_or_len (λ (r : Reservation). r.number == n) k.held

abbrev pub row_asked : Books → ℕ → Option Standing
row_asked k n = slice_get k.rows (row_place k n)

abbrev pub held_asked : Books → ℕ → Option Reservation
held_asked k n = slice_get k.held (held_place k n)

-- the row at a place, changed
abbrev pub with_row : (Standing → Standing) → ℕ → Books → Books
with_row f i k = record k { rows = slice_set k.rows i (f (slice_index_or k.rows i no_row)) }

abbrev pub line_of : Standing → Line
line_of s = record { ledger = s.account.ledger; label = s.account.label; number = s.account.number }

-- one account more, unless there are as many as there may be
abbrev pub opened_with : Standing → Books → Books
opened_with s k = cond (nat_lt (length k.rows) most_accounts) (record k { rows = k.rows ++ (s ∷ []); lines = listed (line_of s) k.lines }) k
