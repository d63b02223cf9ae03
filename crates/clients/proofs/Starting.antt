-- A past that is made from nothing on: what the journal then holds.
use Rattle.std.proofs.Common.{◌≡◌, ◌-◌, min, length, List, [], ◌++◌, ap, ◌∙◌}
use Rattle.meaning.specs.declared.entry.Entry.{Entry}
use Rattle.meaning.specs.declared.order.Order.{Order}
use Rattle.meaning.specs.Calls.{State}
use Rattle.meaning.specs.Reading.{reading as reading_of}
use Rattle.journal.specs.declared.journal.Journal as journal
use Rattle.journal.specs.declared.mirror.Mirror.{Mirror}
use Rattle.policy.specs.declared.policy.Policy as policy
use Rattle.steps.specs.Written.{journal_of, entries_of, records_of}
use Rattle.reading.specs.Stands.{start_of}
use Rattle.book.specs.declared.book.Book.{Book}
use Rattle.book.specs.Called.{Created}
use Rattle.book.specs.States.{policy_of, state_of}
use Rattle.promise.specs.declared.call.Call.{Call}
use Rattle.promise.specs.declared.desk.Desk.{Desk}
use Rattle.promise.specs.Takeovers.{beginning}
use Rattle.promise.specs.Made.{CallsAll, with_desk}
use Rattle.promise.specs.Worlds.{World, adds_all}
use Rattle.promise.proofs.Living.{same-final, same-adds}
use Rattle.clients.specs.Seasons.{season, before_all, season_was}

-- a mirror of two rolls takes as many entries as either
pub two_rolls : (m : Mirror (List Entry) (List Entry)) (r s : List Entry) → m.first ≡ r → m.second ≡ s → 256 - length r ≡ 256 → 256 - length s ≡ 256 → min (256 - length m.first) (256 - length m.second) ≡ 256
two_rolls m r s one other first second =
    ap (λ (x : List Entry). min (256 - length x) (256 - length m.second)) one ∙ (ap (λ (x : List Entry). min (256 - length r) (256 - length x)) other
    ∙ (ap (λ n. min n (256 - length s)) first ∙ ap (min 256) second))

-- a state, and a desk as it is at first
abbrev pub at_first : State → World
at_first s = record { state = s; told = before_all.told; answers = before_all.answers; lapses = before_all.lapses; bytes = before_all.bytes }

-- an empty journal of spare 256
module _ {J : Type 0} (j : journal.Ghosts J) (x : J) (empty : j.entries x ≡ []) (spare : j.spare x ≡ 256) where
  pub begins : at_first (beginning j season x) ≡ before_all
  begins =
      let J = ap records_of empty in
      let T = ap (λ es. start_of (reading_of season (records_of es)) (records_of es)) empty in
      λ i. at_first (record { journal = J i; moment = T i; spare = spare i })

  module _ {P : Type 0} (p : policy.Ghosts P) (y : P) (is : p.admits y ≡ season) (A A1 : Book J P j p) (made : Created j p x y A) (os : List Order) (past : List Call) (d d' : Desk) (new : with_desk (state_of j p A) d ≡ at_first (state_of j p A))
      (run : CallsAll j p os A d past A1 d') where
    policy_is : policy_of j p A ≡ season
    policy_is = ap p.admits made.policy ∙ is

    start : with_desk (state_of j p A) d ≡ before_all
    start =
        let w : at_first (state_of j p A) ≡ at_first (beginning j (p.admits y) x) = λ i. at_first (record { journal = journal_of j (made.journal i); moment = made.moment i; spare = j.spare (made.journal i) }) in
        new ∙ (w ∙ (ap (λ a. at_first (beginning j a x)) is ∙ begins))

    pub writes : j.entries A1.journal ≡ entries_of (adds_all season os before_all past)
    writes =
        run.wrote.entries ∙ (ap (λ v. j.entries v ++ entries_of (adds_all (policy_of j p A) os (with_desk (state_of j p A) d) past)) made.journal
        ∙ (ap (λ es. es ++ entries_of (adds_all (policy_of j p A) os (with_desk (state_of j p A) d) past)) empty ∙ ap entries_of (same-adds policy_is start os past)))

    pub leaves : j.spare A1.journal ≡ (season_was os past).spare
    leaves = ap (λ (w : World). w.state.spare) (run.world ∙ same-final policy_is start os past)
