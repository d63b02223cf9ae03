-- What every book keeps that was read through, whatever its past: J stands for its journal's records and T for its moment.
use Rattle.std.specs.Prelude.{◌≡◌, ℕ}
use Rattle.meaning.specs.Given.{accounts, reservations}
use Rattle.meaning.specs.Questions.{standing, account_asked, with_fate, reservation_asked}
use Rattle.journal.specs.declared.journal.Journal as journal
use Rattle.policy.specs.declared.policy.Policy as policy
use Rattle.balances.specs.Books.{books_of}
use Rattle.laws.specs.Kept.{Once, Apart, Balanced, Admitted}
use Rattle.image.specs.Image.{oldest}
use Rattle.steps.specs.Written.{journal_of}
use Rattle.book.specs.declared.book.Book.{Book}
use Rattle.book.specs.Called.{account_told, reservation_told}
use Rattle.book.specs.States.{policy_of}

pub record Keeps {J P : Type 0} (j : journal.Ghosts J) (p : policy.Ghosts P) (b : Book J P j p) : Type 0 where
  -- asked for the account of any number, it answers what J and T give, and so for a reservation
  pub account_answers : (n : ℕ) → account_told j p b n ≡ account_asked (journal_of j b.journal) b.moment n
  pub reservation_answers : (n : ℕ) → reservation_told j p b n ≡ reservation_asked (journal_of j b.journal) b.moment n
  -- its accounts are those of J, each with the four totals that J and T give
  pub accounts_are : (books_of b.balances).rows ≡ oldest (standing (journal_of j b.journal) b.moment) (accounts (journal_of j b.journal))
  -- its reservations are those of J, each with the fate that J and T give
  pub reservations_are : (books_of b.balances).held ≡ oldest (with_fate (journal_of j b.journal) b.moment) (reservations (journal_of j b.journal))
  -- no two accounts have the same number, and no two reservations
  pub apart : Apart (journal_of j b.journal)
  -- in each ledger debits equal credits, pending and posted each
  pub balanced : Balanced (journal_of j b.journal) b.moment
  -- each reservation is closed at most once, later, in time, and for no more than was reserved
  pub once : Once (journal_of j b.journal)
  -- the policy admits every account
  pub admitted : Admitted (policy_of j p b) (journal_of j b.journal) b.moment
