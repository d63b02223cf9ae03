-- The second book: created over a journal, moved to a moment, and called further.
use Rattle.std.proofs.Common.{◌≡◌, ℕ, ◌-◌, List, [], length, Result, refl, ap, ◌∙◌, subst}
use Rattle.meaning.specs.declared.answers.Moved.{Moved}
use Rattle.meaning.specs.declared.order.Order.{Order}
use Rattle.meaning.specs.declared.record.Record.{Record}
use Rattle.meaning.specs.declared.refusal.Refusal.{Refusal}
use Rattle.meaning.specs.Batches.{grown}
use Rattle.meaning.specs.Calls.{State, moved_to}
use Rattle.meaning.specs.Reading.{reading as reading_of}
use Rattle.meaning.specs.Rules.{Policy}
use Rattle.journal.specs.declared.journal.Journal as journal
use Rattle.policy.specs.declared.policy.Policy as policy
use Rattle.steps.specs.Written.{journal_of, Wrote}
use Rattle.steps.proofs.Writes.{wrote_then}
use Rattle.book.specs.declared.book.Book.{Book}
use Rattle.book.specs.Called.{Created, MovedTo}
use Rattle.book.specs.States.{policy_of, state_of}
use Rattle.promise.specs.declared.call.Call.{Call}
use Rattle.promise.specs.declared.desk.Desk.{Desk}
use Rattle.promise.specs.Takeovers.{beginning, places, arrival, arrived}
use Rattle.promise.specs.Made.{world_of, CallsAll, with_desk}
use Rattle.promise.specs.Worlds.{final, adds_all}
use Rattle.promise.proofs.Living.{same-final, same-adds}

-- what is known of it whatever its journal x and its policy
pub record Came {K Q : Type 0} (k : journal.Ghosts K) (q : policy.Ghosts Q) (admits : Policy) (x : K) (t : ℕ) (os : List Order) (further : List Call) (theirs theirs' : Desk) (B1 B2 : Book K Q k q) (r : Result Moved Refusal) : Type 0 where
  pub came_to : state_of k q B1 ≡ arrived admits (beginning k admits x) t
  pub unchanged : B1.journal ≡ x
  pub policy_moved : policy_of k q B1 ≡ admits
  pub reading_moved : B1.reading ≡ reading_of admits (journal_of k x)
  pub answer : r ≡ arrival admits (beginning k admits x) t
  pub told : world_of k q B2 theirs' ≡ final admits os (with_desk (arrived admits (beginning k admits x) t) theirs) further
  pub wrote : Wrote k x (adds_all admits os (with_desk (arrived admits (beginning k admits x) t) theirs) further) B2.journal
  pub policy : policy_of k q B2 ≡ admits
  pub reading : B2.reading ≡ reading_of admits (journal_of k x)

module _ {K Q : Type 0} (k : journal.Ghosts K) (q : policy.Ghosts Q) (x : K) (y : Q) (B B1 B2 : Book K Q k q) (os : List Order) (further : List Call) (theirs theirs' : Desk) (t t' : ℕ) (ls : List ℕ) (r : Result Moved Refusal)
    (made : Created k q x y B) (went : MovedTo k q B t places r ls B1) (three : CallsAll k q os B1 theirs further B2 theirs') (at-t : t ≡ t') where
  abbrev admits : Policy
  admits = q.admits y

  abbrev start : State
  start = beginning k admits x

  policy_first : policy_of k q B ≡ admits
  policy_first = ap q.admits made.policy

  begun : state_of k q B ≡ start
  begun = λ i. record { journal = journal_of k (made.journal i); moment = made.moment i; spare = k.spare (made.journal i) }

  state_moved : state_of k q B1 ≡ arrived admits start t'
  state_moved =
      let J = went.after.journal.records ∙ ap (λ (s : State). grown s.journal []) begun in
      let T = went.after.moment ∙ (λ i. moved_to (policy_first i) (begun i) (at-t i) places) in
      let s = went.after.journal.spare ∙ ap (λ (s : State). s.spare - length {A = Record} []) begun in
      λ i. record { journal = J i; moment = T i; spare = s i }

  moved_policy : policy_of k q B1 ≡ admits
  moved_policy = ap q.admits (went.after.policy ∙ made.policy)

  on_desk : with_desk (state_of k q B1) theirs ≡ with_desk (arrived admits start t') theirs
  on_desk = ap (λ s. with_desk s theirs) state_moved

  abbrev added : List Record
  added = adds_all admits os (with_desk (arrived admits start t') theirs) further

  all_wrote : Wrote k x added B2.journal
  all_wrote =
      wrote_then k x B1.journal B2.journal [] added (subst (λ v. Wrote k v [] B1.journal) made.journal went.after.journal)
      (subst (λ v. Wrote k B1.journal v B2.journal) (same-adds moved_policy on_desk os further) three.wrote)

  pub came : Came k q admits x t' os further theirs theirs' B1 B2 r
  came = record {
    came_to = state_moved;
    unchanged = went.after.journal.untouched refl ∙ made.journal;
    policy_moved = moved_policy;
    reading_moved = went.after.reading ∙ made.reading;
    answer = went.answer ∙ (λ i. arrival (policy_first i) (begun i) (at-t i));
    told = three.world ∙ same-final moved_policy on_desk os further;
    wrote = all_wrote;
    policy = ap q.admits three.policy ∙ moved_policy;
    reading = three.reading ∙ (went.after.reading ∙ made.reading);
  }
