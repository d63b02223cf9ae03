-- What account and reservation records show, and what their methods make of that.
use Rattle.std.specs.Prelude.{◌≡◌, ℕ, ◌+◌, ◌-◌, min}
use Rattle.meaning.specs.declared.account.Account.{Account}
use Rattle.meaning.specs.declared.opening.Opening.{Opening}
use Rattle.meaning.specs.declared.reservation.Reservation.{Reservation}
use Rattle.meaning.specs.declared.fate.Event.{Event}
use Rattle.meaning.specs.Basics.{at}
use Rattle.meaning.specs.Sound.{fits}
use Rattle.meaning.specs.Fates.{next}
use Rattle.meaning.specs.declared.standing.Standing.{Standing}

abbrev pub opening_of : Account → Opening
opening_of a = record { number = a.number; ledger = a.ledger; class = a.class; limit = a.limit.litres; label = a.label.code }

abbrev pub standing_of : Account → Standing
standing_of a = record {
  account = opening_of a;
  debits_pending = a.totals.debits.pending;
  debits_posted = a.totals.debits.posted;
  credits_pending = a.totals.credits.pending;
  credits_posted = a.totals.credits.posted;
}

abbrev pub StandingOf : Account → Standing → Type 0
StandingOf a s = s ≡ standing_of a

-- p more pending and q more posted, where the side takes both
abbrev pub debited : (p q : ℕ) → Standing → Standing
debited p q s = record s { debits_pending = s.debits_pending + at (fits s.debits_pending s.debits_posted (p + q)) p; debits_posted = s.debits_posted + at (fits s.debits_pending s.debits_posted (p + q)) q }

abbrev pub credited : (p q : ℕ) → Standing → Standing
credited p q s = record s { credits_pending = s.credits_pending + at (fits s.credits_pending s.credits_posted (p + q)) p; credits_posted = s.credits_posted + at (fits s.credits_pending s.credits_posted (p + q)) q }

-- an amount leaves what is pending and a part of it is posted; never more than is there
abbrev pub debit_released : (amount part : ℕ) → Standing → Standing
debit_released a b s = record s { debits_pending = s.debits_pending - a; debits_posted = s.debits_posted + min b (min a s.debits_pending) }

abbrev pub credit_released : (amount part : ℕ) → Standing → Standing
credit_released a b s = record s { credits_pending = s.credits_pending - a; credits_posted = s.credits_posted + min b (min a s.credits_pending) }

-- a reservation after an event
abbrev pub met : Event → Reservation → Reservation
met e R = record R { fate = next R.fate e }
