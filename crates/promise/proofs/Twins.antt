-- The second book against the first: with the same policy, over a journal with the same list and spare.
use Rattle.std.proofs.Common.{◌≡◌, ◌-◌, List, ◌++◌, None, Result, sym, ap, ◌∙◌, subst, arith, Ok}
use Rattle.std.specs.Option.{option_or}
use Rattle.meaning.specs.declared.answers.Moved.{Moved}
use Rattle.meaning.specs.declared.order.Order.{Order}
use Rattle.meaning.specs.declared.record.Record.{Record}
use Rattle.meaning.specs.declared.refusal.Refusal.{Refusal}
use Rattle.meaning.specs.Calls.{State, answered, move_answer, moves_not, unless}
use Rattle.meaning.specs.Given.{latest}
use Rattle.meaning.specs.Moves.{move_refused}
use Rattle.meaning.specs.Policies.{Lawful}
use Rattle.meaning.specs.Reading.{reading as reading_of, stopped_refused}
use Rattle.meaning.specs.Rules.{Policy}
use Rattle.journal.specs.declared.journal.Journal as journal
use Rattle.policy.specs.declared.policy.Policy as policy
use Rattle.steps.specs.Written.{journal_of, records_of, entries_of, Wrote}
use Rattle.reading.specs.Stands.{start_of}
use Rattle.book.specs.declared.book.Book.{Book}
use Rattle.book.specs.States.{policy_of, state_of}
use Rattle.book.proofs.Running.{running, reads}
use Rattle.promise.specs.declared.call.Call.{Call}
use Rattle.promise.specs.declared.desk.Desk.{Desk}
use Rattle.promise.specs.Made.{CallsAll, with_desk}
use Rattle.promise.specs.Pairs.{Alike, pair, Agree}
use Rattle.promise.specs.Takeovers.{beginning, places, arrival, arrived, point_of, Fits, Meets, Twin}
use Rattle.promise.specs.Worlds.{World}
use Rattle.promise.proofs.Few.{arrives}
use Rattle.promise.proofs.Kept.{keeps_all}
use Rattle.promise.proofs.Living.{same-final, same-adds}
use Rattle.promise.proofs.Second.{Came}

-- the same records written into two journals with the same list leave the same list
wrote_alike : {J K : Type 0} {j : journal.Ghosts J} {k : journal.Ghosts K} {a b : J} {a' b' : K} {new : List Record} → Wrote j a new b → Wrote k a' new b' → k.entries a' ≡ j.entries a → k.entries b' ≡ j.entries b
wrote_alike {new = new} u v e = v.entries ∙ (ap (λ es. es ++ entries_of new) e ∙ sym u.entries)

-- a second book over x fits where the first one, b, stands
module _ {J P K Q : Type 0} (j : journal.Ghosts J) (p : policy.Ghosts P) (k : journal.Ghosts K) (q : policy.Ghosts Q) (b : Book J P j p) (x : K) (y : Q) (same : q.admits y ≡ policy_of j p b) (fits : Fits k q (point_of j p b) x y) where
  abbrev admits : Policy
  admits = policy_of j p b

  abbrev from : State
  from = state_of j p b

  read_through : reading_of admits from.journal ≡ Ok tt
  read_through = sym b.read ∙ fits.through

  list : journal_of k x ≡ from.journal
  list = ap records_of fits.entries

  not_refused : move_refused from.journal (latest from.journal) from.moment 256 ≡ None
  not_refused =
      let R = running j p b (sym (ap stopped_refused fits.through)) in
      arrives admits from.journal (reads j p b R) (latest from.journal) from.moment R.runs.in_time R.runs.bounded

  -- it begins at the moment of the newest entry
  abbrev start : State
  start = record { journal = from.journal; moment = latest from.journal; spare = from.spare }

  begun : beginning k (q.admits y) x ≡ start
  begun =
      let T = (λ i. start_of (reading_of (same i) (list i)) (list i)) ∙ ap (λ v. start_of v from.journal) read_through in
      λ i. record { journal = list i; moment = T i; spare = fits.spare i }

  goes : moves_not admits start from.moment places ≡ None
  goes = ap (λ v. option_or (stopped_refused v) (move_refused from.journal (latest from.journal) from.moment 256)) read_through ∙ not_refused

  -- and comes to where the first book is
  comes_to : arrived (q.admits y) (beginning k (q.admits y) x) from.moment ≡ from
  comes_to =
      let all : from.spare - 0 ≡ from.spare = omega arith in
      (λ i. arrived (same i) (begun i) from.moment) ∙ (λ i. record { journal = from.journal; moment = unless (goes i) from.moment (latest from.journal); spare = all i })

  module _ (os : List Order) (further : List Call) (mine theirs theirs' : Desk) (B1 B2 : Book K Q k q) (r : Result Moved Refusal) (second : Came k q (q.admits y) x from.moment os further theirs theirs' B1 B2 r) where
    reading_same : reading_of (q.admits y) (journal_of k x) ≡ Ok tt
    reading_same = (λ i. reading_of (same i) (list i)) ∙ read_through

    pub meets : Lawful (policy_of k q B2) → Meets k q (point_of j p b) x y r B2
    meets law = record {
      there = comes_to;
      arrives = ap (λ J. move_refused J (latest J) from.moment 256) list ∙ not_refused;
      arrival = second.answer ∙ ((λ i. arrival (same i) (begun i) from.moment) ∙ ap (λ o. answered o (move_answer from.journal (latest from.journal) from.moment)) goes);
      policy = second.policy ∙ same;
      through = second.reading ∙ reading_same;
      keeps = keeps_all k q B2 law (second.reading ∙ reading_same);
    }

    module _ (alike : Alike mine theirs) where
      -- before the further calls
      pub agree_first : Agree (pair b mine B1 theirs)
      agree_first = record {
        entries = ap k.entries second.unchanged ∙ fits.entries;
        spare = ap k.spare second.unchanged ∙ fits.spare;
        moment = ap (λ (s : State). s.moment) (second.came_to ∙ comes_to);
        reading = second.reading_moved ∙ (reading_same ∙ sym fits.through);
        desks = alike;
      }

      on_desk : with_desk (arrived (q.admits y) (beginning k (q.admits y) x) from.moment) theirs ≡ with_desk from mine
      on_desk = λ i. record { state = comes_to i; told = alike.told i; answers = alike.answers i; lapses = alike.lapses i; bytes = alike.bytes i }

      pub twin : (A2 : Book J P j p) (mine' : Desk) → CallsAll j p os b mine further A2 mine' → Twin (point_of j p b) os further mine x y theirs (pair A2 mine' B2 theirs')
      twin A2 mine' two =
          let equal = second.told ∙ (same-final same on_desk os further ∙ sym two.world) in
          let wrote = subst (λ v. Wrote k x v B2.journal) (same-adds same on_desk os further) second.wrote in
          record {
            agree = record {
              entries = wrote_alike two.wrote wrote fits.entries;
              spare = ap (λ (w : World). w.state.spare) equal;
              moment = ap (λ (w : World). w.state.moment) equal;
              reading = second.reading ∙ (reading_same ∙ (sym fits.through ∙ sym two.reading));
              desks = record { told = ap (λ (w : World). w.told) equal; answers = ap (λ (w : World). w.answers) equal; lapses = ap (λ (w : World). w.lapses) equal; bytes = ap (λ (w : World). w.bytes) equal };
            };
            wrote = wrote;
          }
