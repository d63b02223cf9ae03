-- The first book: its past from its creation on, and the further calls.
use Rattle.std.proofs.Common.{◌≡◌, List, [], ◌++◌, sym, ap, ◌∙◌, subst, Ok}
use Rattle.meaning.specs.declared.order.Order.{Order}
use Rattle.meaning.specs.Reading.{reading as reading_of}
use Rattle.meaning.specs.Rules.{Policy}
use Rattle.journal.specs.declared.journal.Journal as journal
use Rattle.policy.specs.declared.policy.Policy as policy
use Rattle.steps.specs.Written.{journal_of, Wrote}
use Rattle.steps.proofs.Writes.{wrote_then}
use Rattle.book.specs.declared.book.Book.{Book}
use Rattle.book.specs.Called.{Created}
use Rattle.book.specs.States.{policy_of, state_of}
use Rattle.promise.specs.declared.call.Call.{Call}
use Rattle.promise.specs.declared.desk.Desk.{Desk}
use Rattle.promise.specs.Histories.{then_was, old, point}
use Rattle.promise.specs.Made.{world_of, CallsAll, with_desk}
use Rattle.promise.specs.Takeovers.{beginning, Point, point_of, then_is, new}
use Rattle.promise.specs.Worlds.{World, final, adds_all}

pub same-final : {q r : Policy} {w v : World} → q ≡ r → w ≡ v → (os : List Order) (cs : List Call) → final q os w cs ≡ final r os v cs
same-final {q} {r} {w} {v} e f os cs = λ i. final (e i) os (f i) cs

pub same-adds : {q r : Policy} {w v : World} → q ≡ r → w ≡ v → (os : List Order) (cs : List Call) → adds_all q os w cs ≡ adds_all r os v cs
same-adds {q} {r} {w} {v} e f os cs = λ i. adds_all (e i) os (f i) cs

-- what is known of the first book: created over x (A), after its past (A1), and after the further calls (A2)
pub record Lived {J P : Type 0} (j : journal.Ghosts J) (p : policy.Ghosts P) (admits : Policy) (os : List Order) (x : J) (past further : List Call) (before mine before' mine' : Desk) (A1 A2 : Book J P j p) : Type 0 where
  pub reached : world_of j p A1 before' ≡ then_was j admits os x past before
  pub at : point_of j p A1 ≡ point j admits os x past before
  pub was_told : with_desk (then_was j admits os x past before).state before' ≡ then_was j admits os x past before
  pub is_told : world_of j p A2 mine' ≡ then_is (point j admits os x past before) os further mine
  pub wrote_all : Wrote j x (old j admits os x past before ++ new (point j admits os x past before) os further mine) A2.journal
  pub policy_end : policy_of j p A2 ≡ admits
  pub reading_mid : A1.reading ≡ reading_of admits (journal_of j x)
  pub reading_end : A2.reading ≡ reading_of admits (journal_of j x)
  pub nothing : j.entries x ≡ [] → (A2.reading ≡ Ok tt) × ((beginning j admits x).moment ≡ 0)

module _ {J P : Type 0} (j : journal.Ghosts J) (p : policy.Ghosts P) (os : List Order) (x : J) (y : P) (past further : List Call) (before mine before' mine' : Desk) (A A1 A2 : Book J P j p)
    (made : Created j p x y A) (one : CallsAll j p os A before past A1 before') (two : CallsAll j p os A1 mine further A2 mine') where
  abbrev admits : Policy
  admits = p.admits y

  abbrev was : World
  was = then_was j admits os x past before

  abbrev here : Point
  here = point j admits os x past before

  policy_first : policy_of j p A ≡ admits
  policy_first = ap p.admits made.policy

  policy_mid : policy_of j p A1 ≡ admits
  policy_mid = ap p.admits (one.policy ∙ made.policy)

  begun : world_of j p A before ≡ with_desk (beginning j admits x) before
  begun = λ i. with_desk (record { journal = journal_of j (made.journal i); moment = made.moment i; spare = j.spare (made.journal i) }) before

  reached_was : world_of j p A1 before' ≡ was
  reached_was = one.world ∙ same-final policy_first begun os past

  state_mid : state_of j p A1 ≡ was.state
  state_mid = ap (λ (w : World). w.state) reached_was

  begun_again : world_of j p A1 mine ≡ with_desk was.state mine
  begun_again = ap (λ s. with_desk s mine) state_mid

  past_wrote : Wrote j x (old j admits os x past before) A1.journal
  past_wrote =
      subst (λ v. Wrote j v (old j admits os x past before) A1.journal) made.journal (subst (λ v. Wrote j A.journal v A1.journal) (same-adds policy_first begun os past) one.wrote)

  further_wrote : Wrote j A1.journal (new here os further mine) A2.journal
  further_wrote = subst (λ v. Wrote j A1.journal v A2.journal) (same-adds policy_mid begun_again os further) two.wrote

  read_mid : A1.reading ≡ reading_of admits (journal_of j x)
  read_mid = one.reading ∙ made.reading

  pub lived : Lived j p admits os x past further before mine before' mine' A1 A2
  lived = record {
    reached = reached_was;
    at = λ i. record { admits = policy_mid i; reading = read_mid i; state = state_mid i; entries = past_wrote.entries i };
    was_told = ap (λ s. with_desk s before') (sym state_mid) ∙ reached_was;
    is_told = two.world ∙ same-final policy_mid begun_again os further;
    wrote_all = wrote_then j x A1.journal A2.journal _ _ past_wrote further_wrote;
    policy_end = ap p.admits two.policy ∙ policy_mid;
    reading_mid = read_mid;
    reading_end = two.reading ∙ read_mid;
    nothing = λ e. let z = made.from_nothing e in (two.reading ∙ (one.reading ∙ z.0), sym made.moment ∙ z.1);
  }
