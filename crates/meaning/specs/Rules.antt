-- The rules of an opening and of a leg: each refusal with its condition, in the order in which they are checked.
use Rattle.std.specs.Prelude.{ℕ, ◌+◌, Bool, false, cond, not, ◌||◌, List, [], ◌∷◌, ◌++◌, length, is_some, Some, None, Option, ◌==◌, nat_le, nat_lt}
use Rattle.std.specs.Option.{option_or, option_and_then}
use Rattle.meaning.specs.declared.content.Content.{Content}
use Rattle.meaning.specs.declared.content.Content.TheVariants.{Account, Transfer, Reserve, Post, Void}
use Rattle.meaning.specs.declared.order.Action.{Action}
use Rattle.meaning.specs.declared.order.Action.TheVariants.{Transfer as moves, Reserve as sets_aside, Post as posts, Void as voids}
use Rattle.meaning.specs.declared.order.Order.{Order}
use Rattle.meaning.specs.declared.record.Record.{Record}
use Rattle.meaning.specs.declared.opening.Opening.{Opening}
use Rattle.meaning.specs.declared.fate.Fate.{Fate}
use Rattle.meaning.specs.declared.fate.Fate.TheVariants.{Live, Posted, Voided, Lapsed}
use Rattle.meaning.specs.declared.refusal.Refusal.{Refusal}
use Rattle.meaning.specs.Numbers.{refusal}
use Rattle.meaning.specs.Labels.{is_label}
use Rattle.meaning.specs.Limits.{most_accounts, most_reservations}
use Rattle.meaning.specs.Sound.{top, fits}
use Rattle.meaning.specs.Basics.{first_of}
use Rattle.meaning.specs.Given.{Journal, accounts, reservations, the_account, highest}
use Rattle.meaning.specs.declared.reservation.Reservation.{Reservation}
use Rattle.meaning.specs.declared.standing.Standing.{Standing}
use Rattle.meaning.specs.Questions.{account_asked, reservation_asked}

-- what a policy admits: a class, a limit, and the totals DP, DQ, CP, CQ
abbrev pub Policy : Type 0
Policy = (class limit dp dq cp cq : ℕ) → Bool

-- the policy's word on an account as it stands
abbrev pub admits_standing : Policy → Standing → Bool
admits_standing policy s = policy s.account.class s.account.limit s.debits_pending s.debits_posted s.credits_pending s.credits_posted

-- Opening an account. The journal is full where its spare is 0.

-- a number that is free, and a ledger
abbrev pub place_checks : Journal → (number ledger : ℕ) → List (Bool × Refusal)
place_checks J n l =
    ((n == 0 || is_some (the_account J n), refusal 41)
    ∷ ((l == 0), refusal 42)
    ∷ [])

-- the policy's word on an account with four zeros
abbrev pub zeros_checks : Policy → (class limit : ℕ) → List (Bool × Refusal)
zeros_checks policy k m = (not (policy k m 0 0 0 0), refusal 47) ∷ []

abbrev pub opening_checks : Policy → Journal → (full : Bool) → Opening → List (Bool × Refusal)
opening_checks policy J full A =
    place_checks J A.number A.ledger
    ++ ((nat_lt top A.limit, refusal 43)
    ∷ (not (is_label A.label), refusal 44)
    ∷ (nat_le most_accounts (length (accounts J)), refusal 45)
    ∷ (full, refusal 46)
    ∷ zeros_checks policy A.class A.limit)

abbrev pub opening_refused : Policy → Journal → (full : Bool) → Opening → Option Refusal
opening_refused policy J full A = first_of (opening_checks policy J full A)

-- Rules of a leg that ask for no more than the numbers named here.

-- h is the highest number taken
abbrev pub number_refused : (h n : ℕ) → Option Refusal
number_refused h n = first_of ((n == 0 || nat_le n h, refusal 21) ∷ [])

abbrev pub amount_refused : ℕ → Option Refusal
amount_refused z = first_of ((z == 0 || nat_lt top z, refusal 22) ∷ [])

-- of so many reservations
abbrev pub room_refused : ℕ → Option Refusal
room_refused n = first_of ((nat_le most_reservations n, refusal 30) ∷ [])

abbrev pub fate_refused : Fate → Option Refusal
fate_refused Live = None
fate_refused Posted = Some (refusal 32)
fate_refused Voided = Some (refusal 33)
fate_refused Lapsed = Some (refusal 34)

-- a post of z where a is reserved
abbrev pub part_refused : (z a : ℕ) → Option Refusal
part_refused z a = first_of ((z == 0 || nat_lt a z, refusal 35) ∷ [])

-- Rules of a leg on a reservation that is known or not, as it stands: a void, and a post of z.

abbrev pub void_refused : Option Reservation → Option Refusal
void_refused None = Some (refusal 31)
void_refused (Some R) = fate_refused R.fate

abbrev pub post_refused : ℕ → Option Reservation → Option Refusal
post_refused z o = option_or (void_refused o) (option_and_then (λ (R : Reservation). part_refused z R.amount) o)

-- Rules of a leg between a debit account D and a credit account C.

-- z more between them, as they stand
abbrev pub pair_checks : ℕ → (D C : Standing) → List (Bool × Refusal)
pair_checks z D C =
    (((D.account.number == C.account.number), refusal 25)
    ∷ (not (D.account.ledger == C.account.ledger), refusal 26)
    ∷ (not (fits D.debits_pending D.debits_posted z), refusal 27)
    ∷ (not (fits C.credits_pending C.credits_posted z), refusal 27)
    ∷ [])

-- the policy's word on both, as they would stand
abbrev pub policy_checks : Policy → (D C : Standing) → List (Bool × Refusal)
policy_checks policy D C =
    ((not (admits_standing policy D), refusal 28)
    ∷ (not (admits_standing policy C), refusal 29)
    ∷ [])

-- p more pending and q more posted from D to C
abbrev pub between_checks : Policy → (p q : ℕ) → (D C : Standing) → List (Bool × Refusal)
between_checks policy p q D C =
    pair_checks (p + q) D C
    ++ policy_checks policy (record D { debits_pending = D.debits_pending + p; debits_posted = D.debits_posted + q }) (record C { credits_pending = C.credits_pending + p; credits_posted = C.credits_posted + q })

-- what is checked of two accounts where both are known
abbrev pub parties_refused : ((D C : Standing) → List (Bool × Refusal)) → Option Standing → Option Standing → Option Refusal
parties_refused checks None C = Some (refusal 23)
parties_refused checks (Some D) None = Some (refusal 24)
parties_refused checks (Some D) (Some C) = first_of (checks D C)

module _ (policy : Policy) (J : Journal) (T : ℕ) where
  -- p more pending and q more posted from account d to account c, by an entry with the number n
  abbrev pub movement_refused : (n d c p q : ℕ) → Option Refusal
  movement_refused n d c p q =
      option_or (number_refused (highest J) n) (option_or (amount_refused (p + q)) (parties_refused (between_checks policy p q) (account_asked J T d) (account_asked J T c)))

  -- why an entry of this number and content is refused after J at moment T, if it is
  abbrev pub refused : ℕ → Content → Option Refusal
  refused n (Account l k m b) = opening_refused policy J false (record { number = n; ledger = l; class = k; limit = m; label = b })
  refused n (Transfer d c z) = movement_refused n d c 0 z
  refused n (Reserve d c z u) = option_or (movement_refused n d c z 0) (room_refused (length (reservations J)))
  refused n (Post r z) = option_or (number_refused (highest J) n) (post_refused z (reservation_asked J T r))
  refused n (Void r) = option_or (number_refused (highest J) n) (void_refused (reservation_asked J T r))

-- What a taken opening and a taken leg write.

abbrev pub opening_writes : ℕ → Opening → Record
opening_writes T A = record { number = A.number; linked = false; moment = T; content = Account A.ledger A.class A.limit A.label }

-- the deadline of a reserve at moment T: 0, for none, where the duration is 0
abbrev pub deadline : ℕ → ℕ → ℕ
deadline T duration = cond (duration == 0) 0 (T + duration)

abbrev pub content_of : ℕ → Action → Content
content_of T (moves d c z) = Transfer d c z
content_of T (sets_aside d c z u) = Reserve d c z (deadline T u)
content_of T (posts r z) = Post r z
content_of T (voids r) = Void r

abbrev pub leg_writes : ℕ → Order → Record
leg_writes T o = record { number = o.number; linked = o.linked; moment = T; content = content_of T o.action }

-- one leg after J at moment T
abbrev pub leg_refused : Policy → Journal → ℕ → Order → Option Refusal
leg_refused policy J T o = refused policy J T o.number (content_of T o.action)
