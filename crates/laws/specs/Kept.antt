-- What every journal that can be read keeps, under every lawful policy.
use Rattle.std.specs.Prelude.{◌≡◌, ℕ, ◌+◌, ◌<◌, ◌≤◌, Bool, true, false, [], ◌∷◌, Some, ◌==◌}
use Rattle.std.specs.List.{AllByRecursion, IsDistinct}
use Rattle.meaning.specs.declared.content.Content.{Content}
use Rattle.meaning.specs.declared.content.Content.TheVariants.{Account, Transfer, Reserve, Post, Void}
use Rattle.meaning.specs.declared.record.Record.{Record}
use Rattle.meaning.specs.declared.opening.Opening.{Opening}
use Rattle.meaning.specs.Basics.{at, sum_of}
use Rattle.meaning.specs.Sound.{top}
use Rattle.meaning.specs.Given.{Journal, Reserved, accounts, reservations, the_reservation, debits, credits, pending, posted, of_ledger}
use Rattle.meaning.specs.Rules.{Policy}

-- Each reservation is closed at most once, in time, and for no more than was reserved.

abbrev pub names : ℕ → Content → Bool
names r (Account l k m b) = false
names r (Transfer d c z) = false
names r (Reserve d c z u) = false
names r (Post q z) = q == r
names r (Void q) = q == r

-- how many posts and voids of J name r
abbrev pub closers : Journal → ℕ → ℕ
closers J r = sum_of (λ (e : Record). at (names r e.content) 1) J

-- how many reservations of J have the number r
abbrev pub reservers : Journal → ℕ → ℕ
reservers J r = sum_of (λ (R : Reserved). at (R.number == r) 1) (reservations J)

-- P of each entry, over the entries before it
abbrev pub Each : (Journal → Record → Type 0) → Journal → Type 0
Each P [] = Unit {0}
Each P (e ∷ J) = Each P J × P J e

-- reservation r stands in J, nothing in J closes it, and it has no deadline or one above the moment
pub record Open (J : Journal) (t r : ℕ) (R : Reserved) : Type 0 where
  pub stands : the_reservation J r ≡ Some R
  pub unclosed : closers J r ≡ 0
  pub in_time : 0 < R.until → t < R.until

-- a post or a void closes a reservation that stands before it, and posts no more than was reserved
abbrev pub ClosesWell : Journal → ℕ → Content → Type 0
ClosesWell J t (Account l k m b) = Unit {0}
ClosesWell J t (Transfer d c z) = Unit {0}
ClosesWell J t (Reserve d c z u) = Unit {0}
ClosesWell J t (Post r z) = (R : Reserved) × Open J t r R × (z ≤ R.amount)
ClosesWell J t (Void r) = (R : Reserved) × Open J t r R

pub record Once (J : Journal) : Type 0 where
  pub one_reserve : (r : ℕ) → reservers J r ≤ 1
  pub one_close : (r : ℕ) → closers J r ≤ 1
  pub well : Each (λ K e. ClosesWell K e.moment e.content) J

-- No two accounts have the same number, and no two reservations.

pub record Apart (J : Journal) : Type 0 where
  pub accounts_differ : IsDistinct (λ (A B : Opening). A.number == B.number) (accounts J)
  pub reservations_differ : IsDistinct (λ (R S : Reserved). R.number == S.number) (reservations J)

-- In each ledger debits equal credits.

pub record Balanced (J : Journal) (T : ℕ) : Type 0 where
  pub by_pending : (L : ℕ) → of_ledger J L (pending J T debits) ≡ of_ledger J L (pending J T credits)
  pub by_posted : (L : ℕ) → of_ledger J L (posted J debits) ≡ of_ledger J L (posted J credits)

-- The policy admits each account, and no side passes the top.

pub record Holds (policy : Policy) (A : Opening) (dp dq cp cq : ℕ) : Type 0 where
  pub admits : policy A.class A.limit dp dq cp cq ≡ true
  pub debits_fit : dp + dq ≤ top
  pub credits_fit : cp + cq ≤ top

-- every account of J, as it stands at T
abbrev pub Admitted : Policy → Journal → ℕ → Type 0
Admitted policy J T = AllByRecursion
    (λ (A : Opening). Holds policy A
    (pending J T debits A.number) (posted J debits A.number)
    (pending J T credits A.number) (posted J credits A.number))
    (accounts J)
