-- What the calls give, from what the tables, the journal and the rules gave.
use Rattle.std.proofs.Common.{◌≡◌, ℕ, ◌<◌, ◌≤◌, eqb, List, [], ◌∷◌, length, Some, None, Ok, Err, Option, Result, sym, refl, ap, ◌∙◌, subst, arith}
use Rattle.std.proofs.lemmas.Bool.{eqb-false}
use Rattle.meaning.specs.declared.answers.Moved.{Moved}
use Rattle.meaning.specs.declared.opening.Opening.{Opening}
use Rattle.meaning.specs.declared.record.Record.{Record}
use Rattle.meaning.specs.declared.refusal.Refusal.{Refusal}
use Rattle.meaning.specs.Calls.{answered, unless, over, move_answer, unread, opens_not, moves_not, account_seen, reservation_seen}
use Rattle.meaning.specs.Given.{Journal}
use Rattle.meaning.specs.Listing.{listing}
use Rattle.meaning.specs.Moves.{lapse_list, move_refused}
use Rattle.meaning.specs.Questions.{account_asked, reservation_asked}
use Rattle.meaning.specs.Reading.{stopped_refused, Reading}
use Rattle.meaning.specs.Rules.{Policy, opening_checks, opening_refused, opening_writes}
use Rattle.meaning.specs.Sound.{last}
use Rattle.journal.specs.declared.journal.Journal as journal
use Rattle.policy.specs.declared.policy.Policy as policy
use Rattle.balances.specs.Books.{Books, books_of, row_asked, held_asked}
use Rattle.laws.proofs.Passes.{all_pass}
use Rattle.image.proofs.Asked.{asks}
use Rattle.moves.specs.MovesOn.{MovesOn}
use Rattle.listing.specs.Reports.{Reports}
use Rattle.steps.specs.Written.{journal_of, Wrote}
use Rattle.steps.proofs.Writes.{wrote_none}
use Rattle.book.specs.declared.book.Book.{Book}
use Rattle.book.specs.Called.{Opened, MovedTo, Reported}
use Rattle.book.specs.States.{policy_of, state_of, After}
use Rattle.reading.specs.Stands.{Stands}
use Rattle.book.proofs.Running.{Running, stands, reads, not_unread}

-- what is known of the rules where the answer is known
pub refused_by : {X : Type 0} (o : Option Refusal) (m : X) (x : Refusal) → Err x ≡ answered o m → o ≡ Some x
refused_by None m x e = absurd (let z : ◌≡◌ {A = ℕ} 0 1 = cc in omega arith)
refused_by (Some y) m x e = cc

pub taken_by : {X : Type 0} (o : Option Refusal) (m n : X) → Ok n ≡ answered o m → o ≡ None
taken_by None m n e = refl
taken_by (Some y) m n e = absurd (let z : ◌≡◌ {A = ℕ} 0 1 = cc in omega arith)

-- an opening that is not refused finds spare
pub has_spare : (policy : Policy) (K : Journal) (n : ℕ) (A : Opening) → None ≡ opening_refused policy K (eqb n 0) A → 0 < n
has_spare policy K n A e = let f = (all_pass (opening_checks policy K (eqb n 0) A) (sym e)).1.1.1.1.1.0 in let ne = eqb-false n 0 f in grind arith

-- a move that is not refused goes on, and not past the last moment
pub move_within : (K : Journal) (T t n : ℕ) → move_refused K T t n ≡ None → (T ≤ t) × (t ≤ last)
move_within K T t n e = (grind arith, grind arith)

module _ {J P : Type 0} (j : journal.Ghosts J) (p : policy.Ghosts P) (b b' : Book J P j p) (same-policy : b'.policy ≡ b.policy) (same-reading : b'.reading ≡ b.reading) where
  left : (new : List Record) (t : ℕ) → Wrote j b.journal new b'.journal → b'.moment ≡ t → After j p b new t b'
  left new t w e = record { journal = w; moment = e; policy = same-policy; reading = same-reading }

  module _ (R : Running j p b) where
    opening_is : (A : Opening) (o : Option Refusal) → o ≡ opening_refused (policy_of j p b) (journal_of j b.journal) (eqb (j.spare b.journal) 0) A → opens_not (policy_of j p b) (state_of j p b) A ≡ o
    opening_is A o e = not_unread j p b R _ ∙ sym e

    pub opened-refused : (A : Opening) (r : Result (Unit {0}) Refusal) (x : Refusal) → r ≡ Err x → Some x ≡ opening_refused (policy_of j p b) (journal_of j b.journal) (eqb (j.spare b.journal) 0) A → b'.journal ≡ b.journal → b'.moment ≡ b.moment → Opened j p b A r b'
    opened-refused A r x e why same t =
        let not = opening_is A (Some x) why in
        record {
          answer = e ∙ sym (ap (λ o. answered o tt) not);
          after = subst (λ new. After j p b new b.moment b') (sym (ap (λ o. unless o (opening_writes b.moment A ∷ []) []) not)) (left [] b.moment (subst (Wrote j b.journal []) (sym same) (wrote_none j b.journal)) t);
        }

    pub opened-taken : (A : Opening) → None ≡ opening_refused (policy_of j p b) (journal_of j b.journal) (eqb (j.spare b.journal) 0) A → Wrote j b.journal (opening_writes b.moment A ∷ []) b'.journal → b'.moment ≡ b.moment → Opened j p b A (Ok tt) b'
    opened-taken A none w t =
        let not = opening_is A None none in
        record {
          answer = sym (ap (λ o. answered o tt) not);
          after = subst (λ new. After j p b new b.moment b') (sym (ap (λ o. unless o (opening_writes b.moment A ∷ []) []) not)) (left (opening_writes b.moment A ∷ []) b.moment w t);
        }

    moving_is : (t : ℕ) (ls : List ℕ) → moves_not (policy_of j p b) (state_of j p b) t ls ≡ move_refused (journal_of j b.journal) b.moment t (length ls)
    moving_is t ls = not_unread j p b R _

    -- a move that the tables made, or refused, as the rules say
    pub moved_on : (t : ℕ) (ls ls' : List ℕ) (r : Result Moved Refusal) (k : Books) → MovesOn (journal_of j b.journal) b.moment t ls r ls' k → b'.journal ≡ b.journal → b'.moment ≡ unless (move_refused (journal_of j b.journal) b.moment t (length ls)) t b.moment → MovedTo j p b t ls r ls' b'
    moved_on t ls ls' r k M same is =
        let not = moving_is t ls in
        let K = journal_of j b.journal in
        record {
          answer = M.answer ∙ sym (ap (λ o. answered o (move_answer K b.moment t)) not);
          lapses = M.lapses ∙ sym (ap (λ o. unless o (over (lapse_list K b.moment t) ls) ls) not);
          after = left [] _ (subst (Wrote j b.journal []) (sym same) (wrote_none j b.journal)) (is ∙ sym (ap (λ o. unless o t b.moment) not));
        }

module _ {J P : Type 0} (j : journal.Ghosts J) (p : policy.Ghosts P) (b : Book J P j p) where
  pub reported : Running j p b → (bs bs' : List ℕ) (r : Result ℕ Refusal) → Reports (journal_of j b.journal) b.moment bs r bs' → Reported j p b bs r bs'
  reported R bs bs' r M =
      let not = not_unread j p b R _ in
      let K = journal_of j b.journal in
      record {
        answer = M.answer ∙ sym (ap (λ o. answered o (length (listing K b.moment))) not);
        buffer = M.buffer ∙ sym (ap (λ o. unless o (over (listing K b.moment) bs) bs) not);
      }

  -- questions: nothing is known to a book whose reading stopped
  seen : {X : Type 0} (ask : Books → Option X) (given : Option X) → ask (record { rows = []; held = []; highest = 0; queue = []; lines = [] }) ≡ None → (Running j p b → ask (books_of b.balances) ≡ given)
      → ask (books_of b.balances) ≡ unless (unread (policy_of j p b) (state_of j p b)) given None
  seen {X} ask given nobody there = go b.reading refl (stands j p b) ∙ ap (λ x. unless (stopped_refused x) given None) b.read
    where
      go : (x : Reading) → b.reading ≡ x → Stands x (journal_of j b.journal) b.moment (books_of b.balances) → ask (books_of b.balances) ≡ unless (stopped_refused b.reading) given None
      go (Ok x) e w = there (record { is = e; through = sym b.read ∙ e; runs = w }) ∙ sym (ap (λ x. unless (stopped_refused x) given None) e)
      go (Err s) e w = ap ask w.tables ∙ (nobody ∙ sym (ap (λ x. unless (stopped_refused x) given None) e))

  pub account_seen_lem : (n : ℕ) → row_asked (books_of b.balances) n ≡ account_seen (policy_of j p b) (state_of j p b) n
  account_seen_lem n = seen (λ k. row_asked k n) (account_asked (journal_of j b.journal) b.moment n) refl (λ R. ap (λ k. row_asked k n) R.runs.tables ∙ (asks (policy_of j p b) (journal_of j b.journal) (reads j p b R) b.moment).account n)

  pub reservation_seen_lem : (n : ℕ) → held_asked (books_of b.balances) n ≡ reservation_seen (policy_of j p b) (state_of j p b) n
  reservation_seen_lem n = seen (λ k. held_asked k n) (reservation_asked (journal_of j b.journal) b.moment n) refl (λ R. ap (λ k. held_asked k n) R.runs.tables ∙ (asks (policy_of j p b) (journal_of j b.journal) (reads j p b R) b.moment).reservation n)
