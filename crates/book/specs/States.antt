-- What a book begins with and stands for, and what a call leaves of it.
use Rattle.std.specs.Prelude.{◌≡◌, ℕ, List}
use Rattle.meaning.specs.declared.entry.Entry.{Entry}
use Rattle.meaning.specs.declared.record.Record.{Record}
use Rattle.meaning.specs.Calls.{State}
use Rattle.meaning.specs.Reading.{reading as reading_of}
use Rattle.meaning.specs.Rules.{Policy}
use Rattle.journal.specs.declared.journal.Journal as journal
use Rattle.policy.specs.declared.policy.Policy as policy
use Rattle.steps.specs.Written.{records_of, journal_of, Wrote}
use Rattle.reading.specs.Stands.{start_of}
use Rattle.book.specs.declared.book.Book.{Book}

-- what a book begins with over a journal of these entries, with so much spare
abbrev pub begins : List Entry → ℕ → Policy → State
begins es spare policy = record { journal = records_of es; moment = start_of (reading_of policy (records_of es)) (records_of es); spare = spare }

module _ {J P : Type 0} (j : journal.Ghosts J) (p : policy.Ghosts P) where
  -- what the book's policy admits
  abbrev pub policy_of : Book J P j p → Policy
  policy_of b = p.admits b.policy

  abbrev pub state_of : Book J P j p → State
  state_of b = record { journal = journal_of j b.journal; moment = b.moment; spare = j.spare b.journal }

  -- a book after a call: these records joined its journal, and its moment is t
  pub record After (b : Book J P j p) (new : List Record) (t : ℕ) (b' : Book J P j p) : Type 0 where
    pub journal : Wrote j b.journal new b'.journal
    pub moment : b'.moment ≡ t
    pub policy : b'.policy ≡ b.policy
    pub reading : b'.reading ≡ b.reading
