-- What the questions answer: an account with its totals, a reservation with its fate.
use Rattle.std.specs.Prelude.{ℕ, Option}
use Rattle.std.specs.Option.{option_map}
use Rattle.meaning.specs.declared.opening.Opening.{Opening}
use Rattle.meaning.specs.declared.reservation.Reservation.{Reservation}
use Rattle.meaning.specs.declared.standing.Standing.{Standing}
use Rattle.meaning.specs.Given.{Journal, Reserved, the_account, the_reservation, fate, debits, credits, pending, posted}

-- an account of J with the totals that J and T give it
abbrev pub standing : Journal → ℕ → Opening → Standing
standing J T A = record {
  account = A;
  debits_pending = pending J T debits A.number;
  debits_posted = posted J debits A.number;
  credits_pending = pending J T credits A.number;
  credits_posted = posted J credits A.number;
}

abbrev pub account_asked : Journal → ℕ → ℕ → Option Standing
account_asked J T a = option_map (standing J T) (the_account J a)

-- a reservation of J with the fate that J and T give it
abbrev pub with_fate : Journal → ℕ → Reserved → Reservation
with_fate J T R = record { number = R.number; debit = R.debit; credit = R.credit; amount = R.amount; deadline = R.until; fate = fate J T R }

abbrev pub reservation_asked : Journal → ℕ → ℕ → Option Reservation
reservation_asked J T r = option_map (with_fate J T) (the_reservation J r)
