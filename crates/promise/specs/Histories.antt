-- Whole runs: a book from its creation on, and a second one that takes over from what the first has written.
use Rattle.std.specs.Prelude.{◌≡◌, List, [], ◌++◌, Ok, Result}
use Rattle.meaning.specs.declared.answers.Moved.{Moved}
use Rattle.meaning.specs.declared.order.Order.{Order}
use Rattle.meaning.specs.declared.record.Record.{Record}
use Rattle.meaning.specs.declared.refusal.Refusal.{Refusal}
use Rattle.meaning.specs.Reading.{reading as reading_of}
use Rattle.meaning.specs.Rules.{Policy}
use Rattle.journal.specs.declared.journal.Journal as journal
use Rattle.policy.specs.declared.policy.Policy as policy
use Rattle.steps.specs.Written.{journal_of, entries_of, Wrote}
use Rattle.book.specs.declared.book.Book.{Book}
use Rattle.book.specs.States.{policy_of, state_of}
use Rattle.promise.specs.declared.call.Call.{Call}
use Rattle.promise.specs.declared.desk.Desk.{Desk}
use Rattle.promise.specs.Kept.{Keeps}
use Rattle.promise.specs.Made.{with_desk}
use Rattle.promise.specs.Pairs.{Alike, Pair}
use Rattle.promise.specs.Takeovers.{beginning, Point, point_of, then_is, new, Fits, TakenOver, InStep}
use Rattle.promise.specs.Worlds.{World, final, adds_all}

-- The past is made on a book over x, with the desk before.
module _ {J : Type 0} (j : journal.Ghosts J)
    (admits : Policy) (os : List Order) (x : J) (past : List Call) (before : Desk) where
  -- what the rules alone make of it, and the records that it adds
  abbrev pub then_was : World
  then_was = final admits os (with_desk (beginning j admits x) before) past

  abbrev pub old : List Record
  old = adds_all admits os (with_desk (beginning j admits x) before) past

  -- where the book stands then
  abbrev pub point : Point
  point = record {
    admits = admits;
    reading = reading_of admits (journal_of j x);
    state = then_was.state;
    entries = j.entries x ++ entries_of old;
  }

module _ {J P K Q : Type 0}
    {j : journal.Ghosts J} {p : policy.Ghosts P} {k : journal.Ghosts K} {q : policy.Ghosts Q} where
  -- A second book over x' takes over, and further calls are made on both, with the desks mine and theirs.
  module _ (admits : Policy) (os : List Order) (x : J) (past further : List Call)
      (before mine : Desk) where
    pub record History (x' : K) (y' : Q) (theirs before' : Desk)
        (v : Pair j p k q) (r : Result Moved Refusal) : Type 0 where
      -- past and further calls gave what the rules give, refused ones too
      pub past_told : with_desk (then_was j admits os x past before).state before'
          ≡ then_was j admits os x past before
      pub first_told : with_desk (state_of j p v.first) v.mine
          ≡ then_is (point j admits os x past before) os further mine
      pub wrote : Wrote j x
          (old j admits os x past before ++ new (point j admits os x past before) os further mine)
          v.first.journal
      pub policy : policy_of j p v.first ≡ admits
      pub reading : v.first.reading ≡ reading_of admits (journal_of j x)
      -- the one assumption: the journal was read through
      pub keeps : reading_of admits (journal_of j x) ≡ Ok tt → Keeps j p v.first
      -- an empty one always is, and the book begins at 0
      pub from_nothing : j.entries x ≡ []
          → (v.first.reading ≡ Ok tt) × ((beginning j admits x).moment ≡ 0)
      -- the second book did what the rules say, and takes the first one's place where it fits
      pub second : TakenOver (point j admits os x past before) os further mine x' y' theirs v r
      -- with desks that are alike, both agree after every further call, from the first book as the past left it
      pub together : Fits k q (point j admits os x past before) x' y' → Alike mine theirs
          → (b : Book J P j p)
          × ((point_of j p b ≡ point j admits os x past before)
          × (with_desk (state_of j p b) before' ≡ then_was j admits os x past before)
          × InStep os further b mine x' y' theirs v r)
