-- Chains: the legs one after another, and what a whole chain leaves.
use Rattle.std.specs.Prelude.{◌≡◌, ℕ, ◌≤◌, true, List, [], map, length, is_ok, Result}
use Rattle.std.specs.List.{AllByRecursion}
use Rattle.std.specs.Result.{result_err}
use Rattle.meaning.specs.declared.order.Order.{Order}
use Rattle.meaning.specs.declared.refusal.Refusal.{Refusal}
use Rattle.meaning.specs.declared.answers.Stop.{Stop}
use Rattle.meaning.specs.Batches.{first_refused, Outcome, grown, taken, batch_refused, Answer}
use Rattle.meaning.specs.Calls.{answered, unless, over}
use Rattle.meaning.specs.Given.{Journal}
use Rattle.meaning.specs.Rules.{Policy, leg_writes}
use Rattle.meaning.specs.Sound.{last, sound}
use Rattle.journal.specs.declared.journal.Journal as journal
use Rattle.balances.specs.declared.balances.Balances.{Balances}
use Rattle.balances.specs.Books.{books_of}
use Rattle.balances.specs.Undone.{legs_of, written_of}
use Rattle.laws.specs.Steps.{Ready}
use Rattle.image.specs.Image.{image_of}
use Rattle.steps.specs.Written.{journal_of, Wrote}

-- the legs of a chain, run up to the first that the rules refuse; where there is none, the tables show J with them
pub record Ran (policy : Policy) (J : Journal) (T : ℕ) (os : List Order) (r : Result (Unit {0}) Stop) (after : Balances) : Type 0 where
  pub stop : result_err r ≡ first_refused policy J T os
  pub tables : is_ok r ≡ true → books_of after ≡ image_of (grown J (map (leg_writes T) os)) T
  pub legs : is_ok r ≡ true → legs_of after ≡ length os
  pub written : is_ok r ≡ true → written_of after ≡ map (leg_writes T) os
  pub sound : is_ok r ≡ true → AllByRecursion (λ o. sound (leg_writes T o) ≡ true) os

module _ {J : Type 0} (j : journal.Ghosts J) (policy : Policy) where
  -- the journal reads through, its last entry is not after T, and the tables hold what both give
  pub record Tied (T : ℕ) (b : Balances) (x : J) : Type 0 where
    pub ready : Ready policy (journal_of j x) T
    pub tables : books_of b ≡ image_of (journal_of j x) T
    pub bounded : T ≤ last

  -- a chain has come to this outcome
  pub record Chained (T : ℕ) (x : J) (out : Outcome) (n : ℕ) (told : List Answer) (after : Balances) (x' : J) : Type 0 where
    pub count : n ≡ taken out
    pub answers : told ≡ out.answers
    pub wrote : Wrote j x out.entries x'
    pub tied : Tied T after x'

  -- a batch of orders, which would come to this outcome, with a list for its answers
  pub record Batched (T : ℕ) (x : J) (out : Outcome) (os : List Order) (ans : List Answer) (r : Result ℕ Refusal) (ans' : List Answer) (after : Balances) (x' : J) : Type 0 where
    pub answer : r ≡ answered (batch_refused os (length ans)) (taken out)
    pub answers : ans' ≡ unless (batch_refused os (length ans)) (over out.answers ans) ans
    pub wrote : Wrote j x (unless (batch_refused os (length ans)) out.entries []) x'
    pub tied : Tied T after x'
