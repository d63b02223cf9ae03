-- What is noted while a chain is open.
use Rattle.std.specs.Prelude.{◌≡◌, ℕ, ◌≤◌, cond, List, [], ◌∷◌, ◌++◌, length, map, nat_lt}
use Rattle.std.specs.List.{AllByRecursion}
use Rattle.meaning.specs.declared.record.Record.{Record}
use Rattle.meaning.specs.declared.reservation.Reservation.{Reservation}
use Rattle.meaning.specs.Limits.{most_legs, most_reservations}
use Rattle.meaning.specs.declared.standing.Standing.{Standing}
use Rattle.meaning.specs.Rows.{standing_of}
use Rattle.ordered.specs.declared.due.Due.{Due}
use Rattle.ordered.specs.Items.{items}
use Rattle.balances.specs.declared.notes.Leg.{Leg}
use Rattle.balances.specs.declared.notes.Notes.{Notes}
use Rattle.balances.specs.declared.notes.Undo.{Undo}

-- what a leg wrote over
pub record Trace : Type 0 where
  pub debit : ℕ
  pub debit_was : Standing
  pub credit : ℕ
  pub credit_was : Standing
  pub slot : ℕ
  pub slot_was : Reservation
  pub reserved_was : ℕ
  pub highest_was : ℕ

abbrev pub trace_of : Undo → Trace
trace_of u = record {
  debit = u.debit;
  debit_was = standing_of u.debit_was;
  credit = u.credit;
  credit_was = standing_of u.credit_was;
  slot = u.slot;
  slot_was = u.slot_was;
  reserved_was = u.reserved_was;
  highest_was = u.highest_was;
}

-- of a leg that was taken: what it wrote over, and what it writes into a journal
abbrev pub trace_in : Leg → Trace
trace_in l = trace_of l.undo

abbrev pub record_of : Leg → Record
record_of l = l.fields

-- what the legs wrote over, what they write into a journal, and the queue as it was at the opening
pub record Noted : Type 0 where
  pub traces : List Trace
  pub records : List Record
  pub queue : List Due

abbrev pub noted : Notes → Noted
noted n = record { traces = map trace_in (items n.legs); records = map record_of (items n.legs); queue = items n.queue }

-- no more legs, and no more keys of deadlines, than there is room for
abbrev pub Short : Noted → Type 0
Short n = (length n.traces ≤ most_legs) × (length n.queue ≤ most_reservations)

-- each of these is written at the moment T
abbrev pub AtMoment : ℕ → List Record → Type 0
AtMoment T es = AllByRecursion (λ (e : Record). e.moment ≡ T) es

-- no legs so far
abbrev pub no_legs : List Due → Noted
no_legs q = record { traces = []; records = []; queue = q }

-- one leg more is noted, unless there are as many as there may be
abbrev pub with_leg : Trace → Record → Noted → Noted
with_leg t e n =
    let more : Noted = record { traces = n.traces ++ (t ∷ []); records = n.records ++ (e ∷ []); queue = n.queue } in
    cond (nat_lt (length n.traces) most_legs) more n
