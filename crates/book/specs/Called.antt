-- What each call on a book gives: its answer, the caller's list or buffer, and the book after it.
use Rattle.std.specs.Prelude.{◌≡◌, ℕ, List, [], length, Ok, Option, Result}
use Rattle.meaning.specs.declared.answers.Moved.{Moved}
use Rattle.meaning.specs.declared.opening.Opening.{Opening}
use Rattle.meaning.specs.declared.order.Order.{Order}
use Rattle.meaning.specs.declared.refusal.Refusal.{Refusal}
use Rattle.meaning.specs.declared.reservation.Reservation.{Reservation}
use Rattle.meaning.specs.declared.standing.Standing.{Standing}
use Rattle.meaning.specs.Batches.{taken, Answer}
use Rattle.meaning.specs.Calls.{answered, move_answer, opens_not, open_writes, runs_not, ran, run_writes, run_answers, moves_not, move_lapses, moved_to, reports_not, report_bytes, account_seen, reservation_seen}
use Rattle.meaning.specs.Listing.{listing}
use Rattle.meaning.specs.Reading.{reading as reading_of}
use Rattle.journal.specs.declared.journal.Journal as journal
use Rattle.policy.specs.declared.policy.Policy as policy
use Rattle.steps.specs.Written.{journal_of}
use Rattle.book.specs.declared.book.Book.{Book}
use Rattle.reading.specs.Stands.{start_of}
use Rattle.book.specs.States.{policy_of, state_of, After}

-- a new book: what it owns, how reading ended, and its first moment; over an empty journal it is read through and begins
-- at 0
pub record Created {J P : Type 0} (j : journal.Ghosts J) (p : policy.Ghosts P) (x : J) (y : P) (b : Book J P j p) : Type 0 where
  pub journal : b.journal ≡ x
  pub policy : b.policy ≡ y
  pub reading : b.reading ≡ reading_of (p.admits y) (journal_of j x)
  pub moment : b.moment ≡ start_of (reading_of (p.admits y) (journal_of j x)) (journal_of j x)
  pub from_nothing : j.entries x ≡ [] → (b.reading ≡ Ok tt) × (b.moment ≡ 0)

module _ {J P : Type 0} (j : journal.Ghosts J) (p : policy.Ghosts P) (b : Book J P j p) where
  pub record Opened (A : Opening) (r : Result (Unit {0}) Refusal) (b' : Book J P j p) : Type 0 where
    pub answer : r ≡ answered (opens_not (policy_of j p b) (state_of j p b) A) tt
    pub after : After j p b (open_writes (policy_of j p b) (state_of j p b) A) b.moment b'

  pub record RanBatch (os : List Order) (ans : List Answer) (r : Result ℕ Refusal) (ans' : List Answer) (b' : Book J P j p) : Type 0 where
    pub answer : r ≡ answered (runs_not (policy_of j p b) (state_of j p b) os ans) (taken (ran (policy_of j p b) (state_of j p b) os))
    pub answers : ans' ≡ run_answers (policy_of j p b) (state_of j p b) os ans
    pub after : After j p b (run_writes (policy_of j p b) (state_of j p b) os ans) b.moment b'

  pub record MovedTo (t : ℕ) (ls : List ℕ) (r : Result Moved Refusal) (ls' : List ℕ) (b' : Book J P j p) : Type 0 where
    pub answer : r ≡ answered (moves_not (policy_of j p b) (state_of j p b) t ls) (move_answer (journal_of j b.journal) b.moment t)
    pub lapses : ls' ≡ move_lapses (policy_of j p b) (state_of j p b) t ls
    pub after : After j p b [] (moved_to (policy_of j p b) (state_of j p b) t ls) b'

  pub record Reported (bs : List ℕ) (r : Result ℕ Refusal) (bs' : List ℕ) : Type 0 where
    pub answer : r ≡ answered (reports_not (policy_of j p b) (state_of j p b) bs) (length (listing (journal_of j b.journal) b.moment))
    pub buffer : bs' ≡ report_bytes (policy_of j p b) (state_of j p b) bs

  -- what the questions answer: the account of a number, and the reservation of a number with its fate
  abbrev pub account_told : ℕ → Option Standing
  account_told = account_seen (policy_of j p b) (state_of j p b)

  abbrev pub reservation_told : ℕ → Option Reservation
  reservation_told = reservation_seen (policy_of j p b) (state_of j p b)
