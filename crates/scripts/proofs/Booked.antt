-- A book that a call leaves as it was, and the state of one that it does not.
use Rattle.std.proofs.Common.{◌≡◌, ℕ, List, [], refl}
use Rattle.meaning.specs.declared.record.Record.{Record}
use Rattle.journal.specs.declared.journal.Journal as journal
use Rattle.policy.specs.declared.policy.Policy as policy
use Rattle.steps.proofs.Writes.{wrote_none}
use Rattle.book.specs.declared.book.Book.{Book}
use Rattle.book.specs.States.{state_of, After}
use Rattle.promise.specs.Worlds.{after}

module _ {J P : Type 0} (j : journal.Ghosts J) (p : policy.Ghosts P) (b : Book J P j p) where
  pub unmoved : After j p b [] b.moment b
  unmoved = record { journal = wrote_none j b.journal; moment = refl; policy = refl; reading = refl }

  pub state_after : (new : List Record) (t : ℕ) (b' : Book J P j p) → After j p b new t b' → state_of j p b' ≡ after (state_of j p b) new t
  state_after new t b' A = λ i. record { journal = A.journal.records i; moment = A.moment i; spare = A.journal.spare i }
