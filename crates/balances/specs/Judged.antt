-- Which legs the tables refuse, and what they show the policy.
use Rattle.std.specs.Prelude.{ℕ, ◌+◌, ◌-◌, ◌^◌, min, [], ◌∷◌, length, Option, nat_le}
use Rattle.std.specs.Option.{option_or, option_and_then}
use Rattle.meaning.specs.declared.reservation.Reservation.{Reservation}
use Rattle.meaning.specs.declared.refusal.Refusal.{Refusal}
use Rattle.meaning.specs.declared.refusal.Refusal.TheVariants.{ChainTooLong}
use Rattle.meaning.specs.Limits.{most_legs}
use Rattle.meaning.specs.Rules.{number_refused, amount_refused, room_refused, part_refused, void_refused, pair_checks, parties_refused}
use Rattle.meaning.specs.Basics.{first_of}
use Rattle.meaning.specs.declared.standing.Standing.{Standing}
use Rattle.balances.specs.Contents.{Books, row_asked, held_asked}
use Rattle.balances.specs.Noted.{Noted}

abbrev pub number_judged : ℕ → Books → Option Refusal
number_judged n k = number_refused k.highest n

-- a sum of 64-bit numbers, at most the greatest one
abbrev pub sum : ℕ → ℕ → ℕ
sum p q = min (p + q) (2 ^ 64 - 1)

-- so much more between two accounts
abbrev pub pair_judged : ℕ → Standing → Standing → Option Refusal
pair_judged z D C = first_of (pair_checks z D C)

-- a transfer or a reserve, before the policy is asked
abbrev pub movement_judged : (number debit credit amount : ℕ) → Books → Option Refusal
movement_judged n d c z k = option_or (number_judged n k) (option_or (amount_refused z) (parties_refused (pair_checks z) (row_asked k d) (row_asked k c)))

abbrev pub room_judged : Books → Option Refusal
room_judged k = room_refused (length k.held)

-- a chain has as many legs as it may have
abbrev pub full_judged : Noted → Option Refusal
full_judged n = first_of ((nat_le most_legs (length n.traces), ChainTooLong) ∷ [])

abbrev pub reserve_judged : Noted → Books → Option Refusal
reserve_judged n k = option_or (full_judged n) (room_judged k)

abbrev pub void_judged : (number reservation : ℕ) → Books → Option Refusal
void_judged n r k = option_or (number_judged n k) (void_refused (held_asked k r))

abbrev pub post_judged : (number reservation amount : ℕ) → Books → Option Refusal
post_judged n r z k = option_or (void_judged n r k) (option_and_then (λ (R : Reservation). part_refused z R.amount) (held_asked k r))
