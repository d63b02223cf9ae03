-- The laws of the definitions, each under a name that says it.
use Rattle.std.specs.Prelude.{◌≡◌, ℕ, ◌≤◌, Bool, List, [], ◌∷◌, length, None, Ok}
use Rattle.meaning.specs.declared.record.Record.{Record}
use Rattle.meaning.specs.declared.opening.Opening.{Opening}
use Rattle.meaning.specs.declared.order.Order.{Order}
use Rattle.meaning.specs.Given.{Journal, Reserved, latest}
use Rattle.meaning.specs.Rules.{Policy, opening_refused, opening_writes}
use Rattle.meaning.specs.Batches.{grown, batch}
use Rattle.meaning.specs.Reading.{reading}
use Rattle.meaning.specs.Policies.{Lawful}
use Rattle.laws.specs.Steps.{Reads, Stepwise, FatesGoOn, Ready}
use Rattle.laws.specs.Kept.{Once, Balanced, Admitted}

-- the entries before the last read through by themselves
abbrev pub PrefixReads : Type 0
PrefixReads = (policy : Policy) (e : Record) (J : Journal) → Reads policy (e ∷ J) → Reads policy J

-- an entry that is not refused, and a later moment, change the totals exactly so
abbrev pub TotalsStep : Type 0
TotalsStep = (policy : Policy) (J : Journal) → Reads policy J → (T : ℕ) → Stepwise policy J T

abbrev pub FatesStep : Type 0
FatesStep = (J : Journal) (T : ℕ) (R : Reserved) → FatesGoOn J T R

abbrev pub ClosedAtMostOnce : Type 0
ClosedAtMostOnce = (policy : Policy) (J : Journal) → Reads policy J → Once J

abbrev pub LedgersBalance : Type 0
LedgersBalance = (policy : Policy) (J : Journal) → Reads policy J → (T : ℕ) → Balanced J T

abbrev pub AccountsAreAdmitted : Type 0
AccountsAreAdmitted = (policy : Policy) → Lawful policy → (J : Journal) → Reads policy J → (T : ℕ) → latest J ≤ T → Admitted policy J T

-- an empty journal is read through, and what calls write goes on being read through
pub record WritingsRead (policy : Policy) : Type 0 where
  pub by_nothing : reading policy [] ≡ Ok tt
  pub by_opening : (J : Journal) (T : ℕ) (full : Bool) (A : Opening) → Ready policy J T → opening_refused policy J full A ≡ None → Ready policy (opening_writes T A ∷ J) T
  pub by_batch : (J : Journal) (T spare : ℕ) (os : List Order) → Ready policy J T → Ready policy (grown J (batch policy J T spare os).entries) T

-- a batch answers each order, and writes no more than the journal takes
pub record BatchesFit (policy : Policy) (J : Journal) (T spare : ℕ) (os : List Order) : Type 0 where
  pub each_answered : length (batch policy J T spare os).answers ≡ length os
  pub within_spare : length (batch policy J T spare os).entries ≤ spare
