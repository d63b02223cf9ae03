-- What a journal J and a moment T give: accounts, reservations, fates, totals, and the highest number taken.
--
-- J is the list of a journal's entries, the newest first, so that the entries before one are those behind it in
-- the list. An entry is a record: number, linked, moment and content, which is one of
--   Account ledger class limit label · Transfer debit credit amount · Reserve debit credit amount until
--   Post reservation amount · Void reservation
-- where until 0 stands for no deadline.
use Rattle.std.specs.Prelude.{ℕ, max, Bool, true, false, cond, ◌&&◌, List, [], ◌∷◌, Some, None, Option, ◌==◌, nat_le, nat_lt}
use Rattle.std.specs.List.{find}
use Rattle.meaning.specs.declared.content.Content.{Content}
use Rattle.meaning.specs.declared.content.Content.TheVariants.{Account, Transfer, Reserve, Post, Void}
use Rattle.meaning.specs.declared.record.Record.{Record}
use Rattle.meaning.specs.declared.opening.Opening.{Opening}
use Rattle.meaning.specs.declared.fate.Fate.{Fate}
use Rattle.meaning.specs.declared.fate.Fate.TheVariants.{Live, Posted, Voided, Lapsed}
use Rattle.meaning.specs.Fates.{decided}
use Rattle.meaning.specs.Basics.{at, sum_of}

abbrev pub Journal : Type 0
Journal = List Record

-- Accounts and reservations: the entries of those kinds, the newest first.

abbrev pub with_account : ℕ → Content → List Opening → List Opening
with_account n (Account l k m b) rest = record { number = n; ledger = l; class = k; limit = m; label = b } ∷ rest
with_account n (Transfer d c z) rest = rest
with_account n (Reserve d c z u) rest = rest
with_account n (Post r z) rest = rest
with_account n (Void r) rest = rest

abbrev pub accounts : Journal → List Opening
accounts [] = []
accounts (e ∷ J) = with_account e.number e.content (accounts J)

pub record Reserved : Type 0 where
  pub number : ℕ
  pub debit : ℕ
  pub credit : ℕ
  pub amount : ℕ
  pub until : ℕ

abbrev pub with_reservation : ℕ → Content → List Reserved → List Reserved
with_reservation n (Account l k m b) rs = rs
with_reservation n (Transfer d c z) rs = rs
with_reservation n (Reserve d c z u) rs = record { number = n; debit = d; credit = c; amount = z; until = u } ∷ rs
with_reservation n (Post r z) rs = rs
with_reservation n (Void r) rs = rs

abbrev pub reservations : Journal → List Reserved
reservations [] = []
reservations (e ∷ J) = with_reservation e.number e.content (reservations J)

abbrev pub the_account : Journal → ℕ → Option Opening
the_account J a = find (λ (A : Opening). A.number == a) (accounts J)

abbrev pub the_reservation : Journal → ℕ → Option Reserved
the_reservation J r = find (λ (R : Reserved). R.number == r) (reservations J)

-- The fate of a reservation: posted or voided if an entry of J names it, else lapsed if its deadline has come.

abbrev pub ended_by : ℕ → Content → Fate
ended_by r (Account l k m b) = Live
ended_by r (Transfer d c z) = Live
ended_by r (Reserve d c z u) = Live
ended_by r (Post q z) = cond (q == r) Posted Live
ended_by r (Void q) = cond (q == r) Voided Live

abbrev pub ended : Journal → ℕ → Fate
ended [] r = Live
ended (e ∷ J) r = decided (ended_by r e.content) (ended J r)

-- a deadline at or below the moment; 0 is none
abbrev pub due : ℕ → ℕ → Bool
due until T = nat_lt 0 until && nat_le until T

abbrev pub fate : Journal → ℕ → Reserved → Fate
fate J T R = decided (ended J R.number) (cond (due R.until T) Lapsed Live)

abbrev pub is_live : Fate → Bool
is_live Live = true
is_live Posted = false
is_live Voided = false
is_live Lapsed = false

-- The four totals, by side: what is pending and what is posted on the debit side, and on the credit side.

pub data Side : Type 0 where
  debits : Side
  credits : Side

abbrev pub pick : Side → ℕ → ℕ → ℕ
pick debits d c = d
pick credits d c = c

-- what goes through account a on one side, of things that each have a debit, a credit and a weight
abbrev pub through : {X : Type 0} → (X → ℕ) → (X → ℕ) → (X → ℕ) → List X → Side → ℕ → ℕ
through debit credit weight xs s a = sum_of (λ x. at (pick s (debit x) (credit x) == a) (weight x)) xs

-- DP and CP: the live reservations that debit or credit the account
abbrev pub pending : Journal → ℕ → Side → ℕ → ℕ
pending J T = through (λ (R : Reserved). R.debit) (λ R. R.credit) (λ R. at (is_live (fate J T R)) R.amount) (reservations J)

-- what moves for good: each transfer, and each post through the accounts of the reservation that it names
pub record Movement : Type 0 where
  pub debit : ℕ
  pub credit : ℕ
  pub amount : ℕ

abbrev pub with_post : Option Reserved → ℕ → List Movement → List Movement
with_post None z ms = ms
with_post (Some R) z ms = record { debit = R.debit; credit = R.credit; amount = z } ∷ ms

abbrev pub with_movement : Journal → Content → List Movement → List Movement
with_movement J (Account l k m b) ms = ms
with_movement J (Transfer d c z) ms = record { debit = d; credit = c; amount = z } ∷ ms
with_movement J (Reserve d c z u) ms = ms
with_movement J (Post r z) ms = with_post (the_reservation J r) z ms
with_movement J (Void r) ms = ms

abbrev pub movements : Journal → List Movement
movements [] = []
movements (e ∷ J) = with_movement J e.content (movements J)

-- DQ and CQ: the movements that debit or credit the account
abbrev pub posted : Journal → Side → ℕ → ℕ
posted J = through (λ (M : Movement). M.debit) (λ M. M.credit) (λ M. M.amount) (movements J)

-- the sum over the accounts of one ledger
abbrev pub of_ledger : Journal → ℕ → (ℕ → ℕ) → ℕ
of_ledger J L f = sum_of (λ (A : Opening). at (A.ledger == L) (f A.number)) (accounts J)

-- N: the highest number of an order's entry, or 0.

abbrev pub with_number : ℕ → Content → ℕ → ℕ
with_number n (Account l k m b) h = h
with_number n (Transfer d c z) h = max h n
with_number n (Reserve d c z u) h = max h n
with_number n (Post r z) h = max h n
with_number n (Void r) h = max h n

abbrev pub highest : Journal → ℕ
highest [] = 0
highest (e ∷ J) = with_number e.number e.content (highest J)

-- the moment of the newest entry, or 0
abbrev pub latest : Journal → ℕ
latest [] = 0
latest (e ∷ J) = e.moment
