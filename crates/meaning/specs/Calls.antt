-- What each call on a book answers, writes and leaves, over the state of the book: its journal's entries, its moment
-- and its journal's spare.
use Rattle.std.specs.Prelude.{ℕ, List, [], ◌∷◌, ◌++◌, length, drop, Some, None, Ok, Err, Option, Result, ◌==◌}
use Rattle.std.specs.Option.{option_or}
use Rattle.meaning.specs.declared.answers.Moved.{Moved}
use Rattle.meaning.specs.declared.opening.Opening.{Opening}
use Rattle.meaning.specs.declared.order.Order.{Order}
use Rattle.meaning.specs.declared.record.Record.{Record}
use Rattle.meaning.specs.declared.refusal.Refusal.{Refusal}
use Rattle.meaning.specs.declared.reservation.Reservation.{Reservation}
use Rattle.meaning.specs.Given.{Journal}
use Rattle.meaning.specs.Rules.{Policy, opening_refused, opening_writes}
use Rattle.meaning.specs.Batches.{Answer, Outcome, batch, batch_refused}
use Rattle.meaning.specs.Moves.{lapse_list, next_deadline, move_refused}
use Rattle.meaning.specs.Reading.{reading, stopped_refused}
use Rattle.meaning.specs.declared.standing.Standing.{Standing}
use Rattle.meaning.specs.Questions.{account_asked, reservation_asked}
use Rattle.meaning.specs.Listing.{listing, report_refused}

-- a value, unless something is refused
abbrev pub answered : {X : Type 0} → Option Refusal → X → Result X Refusal
answered None x = Ok x
answered (Some r) x = Err r

-- the first, unless something is refused: then the second
abbrev pub unless : {X : Type 0} → Option Refusal → X → X → X
unless None x y = x
unless (Some r) x y = y

-- a list whose first places are written over
abbrev pub over : {X : Type 0} → List X → List X → List X
over new old = new ++ drop (length new) old

-- what a move answers: how many lapse, and the earliest deadline that is left, or 0
abbrev pub move_answer : Journal → (T t : ℕ) → Moved
move_answer J T t = record { lapsed = length (lapse_list J T t); next_deadline = next_deadline J t }

pub record State : Type 0 where
  pub journal : Journal
  pub moment : ℕ
  pub spare : ℕ

module _ (policy : Policy) (s : State) where
  -- why every call but a question is refused, where the journal can't be read through
  abbrev pub unread : Option Refusal
  unread = stopped_refused (reading policy s.journal)

  -- Opening an account.

  abbrev pub opens_not : Opening → Option Refusal
  opens_not A = option_or unread (opening_refused policy s.journal (s.spare == 0) A)

  abbrev pub open_writes : Opening → List Record
  open_writes A = unless (opens_not A) (opening_writes s.moment A ∷ []) []

  -- Running a batch, with a list for its answers.

  abbrev pub runs_not : List Order → List Answer → Option Refusal
  runs_not os ans = option_or unread (batch_refused os (length ans))

  abbrev pub ran : List Order → Outcome
  ran os = batch policy s.journal s.moment s.spare os

  abbrev pub run_writes : List Order → List Answer → List Record
  run_writes os ans = unless (runs_not os ans) (ran os).entries []

  abbrev pub run_answers : List Order → List Answer → List Answer
  run_answers os ans = unless (runs_not os ans) (over (ran os).answers ans) ans

  -- Moving to t, with a list for the lapses.

  abbrev pub moves_not : ℕ → List ℕ → Option Refusal
  moves_not t ls = option_or unread (move_refused s.journal s.moment t (length ls))

  abbrev pub move_lapses : ℕ → List ℕ → List ℕ
  move_lapses t ls = unless (moves_not t ls) (over (lapse_list s.journal s.moment t) ls) ls

  abbrev pub moved_to : ℕ → List ℕ → ℕ
  moved_to t ls = unless (moves_not t ls) t s.moment

  -- Reporting into a buffer.

  abbrev pub reports_not : List ℕ → Option Refusal
  reports_not bs = option_or unread (report_refused s.journal s.moment (length bs))

  abbrev pub report_bytes : List ℕ → List ℕ
  report_bytes bs = unless (reports_not bs) (over (listing s.journal s.moment) bs) bs

  -- Questions.

  abbrev pub account_seen : ℕ → Option Standing
  account_seen a = unless unread (account_asked s.journal s.moment a) None

  abbrev pub reservation_seen : ℕ → Option Reservation
  reservation_seen r = unless unread (reservation_asked s.journal s.moment r) None
