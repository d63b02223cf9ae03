-- A book that was read through keeps all that a book keeps.
use Rattle.std.proofs.Common.{◌≡◌, None, sym, ap, Ok}
use Rattle.meaning.specs.Calls.{unless}
use Rattle.meaning.specs.Policies.{Lawful}
use Rattle.meaning.specs.Questions.{account_asked, reservation_asked}
use Rattle.meaning.specs.Reading.{stopped_refused}
use Rattle.journal.specs.declared.journal.Journal as journal
use Rattle.policy.specs.declared.policy.Policy as policy
use Rattle.balances.specs.Books.{Books}
use Rattle.laws.proofs.Apart.{apart}
use Rattle.laws.proofs.Once.{once}
use Rattle.laws.proofs.Balanced.{balanced}
use Rattle.laws.proofs.Admitted.{admitted}
use Rattle.steps.specs.Written.{journal_of}
use Rattle.book.specs.declared.book.Book.{Book}
use Rattle.book.specs.States.{policy_of}
use Rattle.book.proofs.Running.{running, reads}
use Rattle.promise.specs.Kept.{Keeps}

module _ {J P : Type 0} (j : journal.Ghosts J) (p : policy.Ghosts P) (b : Book J P j p) (law : Lawful (policy_of j p b)) where
  pub keeps_all : b.reading ≡ Ok tt → Keeps j p b
  keeps_all e =
      let R = running j p b (sym (ap stopped_refused e)) in
      let K = journal_of j b.journal in
      let h = reads j p b R in
      record {
        account_answers = λ n. ap (λ v. unless (stopped_refused v) (account_asked K b.moment n) None) R.through;
        reservation_answers = λ n. ap (λ v. unless (stopped_refused v) (reservation_asked K b.moment n) None) R.through;
        accounts_are = ap (λ (x : Books). x.rows) R.runs.tables;
        reservations_are = ap (λ (x : Books). x.held) R.runs.tables;
        apart = apart (policy_of j p b) K h;
        balanced = balanced (policy_of j p b) K h b.moment;
        once = once (policy_of j p b) K h;
        admitted = admitted (policy_of j p b) law K h b.moment R.runs.in_time;
      }
