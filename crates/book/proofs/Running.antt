-- A book that was read through: what is known of it, and what keeps it so.
use Rattle.std.proofs.Common.{◌≡◌, ℕ, ◌≤◌, List, [], None, Option, Ok, Err, sym, refl, ap, ◌∙◌, subst, arith}
use Rattle.std.specs.Option.{option_or}
use Rattle.meaning.specs.declared.record.Record.{Record}
use Rattle.meaning.specs.declared.refusal.Refusal.{Refusal}
use Rattle.meaning.specs.Batches.{grown}
use Rattle.meaning.specs.Calls.{unread}
use Rattle.meaning.specs.Given.{Journal, latest}
use Rattle.meaning.specs.Reading.{Reading, reading as reading_of, read_so_far, stopped_refused}
use Rattle.meaning.specs.Sound.{last}
use Rattle.journal.specs.declared.journal.Journal as journal
use Rattle.policy.specs.declared.policy.Policy as policy
use Rattle.balances.specs.declared.balances.Balances.{Balances}
use Rattle.balances.specs.Books.{Books, books_of}
use Rattle.laws.specs.Steps.{Reads, Ready}
use Rattle.laws.proofs.Passes.{not_stopped}
use Rattle.image.specs.Image.{image_of}
use Rattle.steps.specs.Shown.{Shown}
use Rattle.steps.specs.Written.{journal_of, Wrote}
use Rattle.steps.proofs.Writes.{wrote_none}
use Rattle.book.specs.declared.book.Book.{Book}
use Rattle.book.specs.States.{policy_of, state_of}
use Rattle.reading.specs.Stands.{Runs, Stands, start_of, end_of, tables_of}

-- what a book keeps, by how its reading ended
pub stands_by : (r : Reading) (K : Journal) (T : ℕ) (k : Books) → start_of r K ≤ T → T ≤ end_of r → k ≡ tables_of r K T → Stands r K T k
stands_by (Ok x) K T k begun in_time is = record { in_time = begun; bounded = in_time; tables = is }
stands_by (Err s) K T k begun in_time is = record { moment = omega arith; tables = is }

module _ {J P : Type 0} (j : journal.Ghosts J) (p : policy.Ghosts P) where
  pub record Running (b : Book J P j p) : Type 0 where
    pub is : b.reading ≡ Ok tt
    pub through : reading_of (policy_of j p b) (journal_of j b.journal) ≡ Ok tt
    pub runs : Runs (journal_of j b.journal) b.moment (books_of b.balances)

  pub stands : (b : Book J P j p) → Stands b.reading (journal_of j b.journal) b.moment (books_of b.balances)
  stands b = stands_by b.reading (journal_of j b.journal) b.moment (books_of b.balances) b.begun b.in_time b.tables

  -- a book that does not refuse all calls was read through
  pub running : (b : Book J P j p) → None ≡ stopped_refused b.reading → Running b
  running b free = go b.reading refl free (stands b)
    where
      go : (r : Reading) → b.reading ≡ r → None ≡ stopped_refused r → Stands r (journal_of j b.journal) b.moment (books_of b.balances) → Running b
      go (Ok x) e n w = record { is = e; through = sym b.read ∙ e; runs = w }
      go (Err s) e n w = absurd (let z : ◌≡◌ {A = ℕ} 0 1 = cc in omega arith)

  module _ (b : Book J P j p) (R : Running b) where
    pub reads : Reads (policy_of j p b) (journal_of j b.journal)
    reads = (not_stopped (read_so_far (policy_of j p b) (journal_of j b.journal)) _ R.through).0

    pub ready : Ready (policy_of j p b) (journal_of j b.journal) b.moment
    ready = record { through = R.through; in_time = R.runs.in_time }

    pub shown : Shown (policy_of j p b) (journal_of j b.journal) b.moment b.balances
    shown = record { reads = reads; tables = R.runs.tables }

    -- nothing is refused for want of reading
    pub not_unread : (r : Option Refusal) → option_or (unread (policy_of j p b) (state_of j p b)) r ≡ r
    not_unread r = ap (λ x. option_or (stopped_refused x) r) R.through

    -- what a book keeps, of a journal, tables and a moment that a call left
    pub record Kept (x : J) (k : Balances) (t : ℕ) : Type 0 where
      pub read : b.reading ≡ reading_of (policy_of j p b) (journal_of j x)
      pub begun : start_of b.reading (journal_of j x) ≤ t
      pub in_time : t ≤ end_of b.reading
      pub tables : books_of k ≡ tables_of b.reading (journal_of j x) t

    -- with these records written and this moment
    pub kept : (x : J) (k : Balances) (t : ℕ) (new : List Record) → Wrote j b.journal new x → Ready (policy_of j p b) (grown (journal_of j b.journal) new) t → t ≤ last → books_of k ≡ image_of (grown (journal_of j b.journal) new) t → Kept x k t
    kept x k t new w r le is = record {
      read = R.is ∙ (sym r.through ∙ ap (reading_of (policy_of j p b)) (sym w.records));
      begun = subst (λ s. start_of s (journal_of j x) ≤ t) (sym R.is) (subst (λ K. latest K ≤ t) (sym w.records) r.in_time);
      in_time = subst (λ s. t ≤ end_of s) (sym R.is) le;
      tables = (is ∙ ap (λ K. image_of K t) (sym w.records)) ∙ ap (λ s. tables_of s (journal_of j x) t) (sym R.is);
    }

    -- with nothing written
    pub kept_on : (k : Balances) (t : ℕ) → b.moment ≤ t → t ≤ last → books_of k ≡ image_of (journal_of j b.journal) t → Kept b.journal k t
    kept_on k t le bound is = kept b.journal k t [] (wrote_none j b.journal) (record { through = R.through; in_time = let q = R.runs.in_time in omega arith }) bound is
