-- Chains and batches: which answer each order gets, and which entries join the journal.
use Rattle.std.specs.Prelude.{ℕ, ◌+◌, ◌-◌, Bool, false, cond, List, [], ◌∷◌, ◌++◌, map, length, replicate, Some, None, Ok, Err, Option, Result, nat_lt, slice_set}
use Rattle.std.specs.Option.{option_map}
use Rattle.meaning.specs.declared.order.Order.{Order}
use Rattle.meaning.specs.declared.record.Record.{Record}
use Rattle.meaning.specs.declared.refusal.Refusal.{Refusal}
use Rattle.meaning.specs.Numbers.{refusal}
use Rattle.meaning.specs.declared.answers.Stop.{Stop}
use Rattle.meaning.specs.Given.{Journal}
use Rattle.meaning.specs.Basics.{sum_of, first_of}
use Rattle.meaning.specs.Limits.{most_legs}
use Rattle.meaning.specs.Rules.{Policy, leg_refused, leg_writes}

-- what an order is answered
abbrev pub Answer : Type 0
Answer = Result (Unit {0}) Refusal

-- An order with the linked mark belongs to the chain of the order after it.

abbrev pub joins : Order → List (List Order) → List (List Order)
joins o [] = (o ∷ []) ∷ []
joins o (c ∷ cs) = (o ∷ c) ∷ cs

abbrev pub chains : List Order → List (List Order)
chains [] = []
chains (o ∷ os) = cond o.linked (joins o (chains os)) ((o ∷ []) ∷ chains os)

-- the last order of the chain still has the mark
abbrev pub unfinished : List Order → Bool
unfinished [] = false
unfinished (o ∷ []) = o.linked
unfinished (o ∷ (p ∷ os)) = unfinished (p ∷ os)

-- the first refused leg; each leg sees the earlier ones
abbrev pub later : Option Stop → Option Stop
later s = option_map (λ (x : Stop). record x { place = x.place + 1 }) s

abbrev pub stop_if : Option Refusal → Option Stop → Option Stop
stop_if (Some r) rest = Some (record { place = 0; refusal = r })
stop_if None rest = later rest

abbrev pub first_refused : Policy → Journal → ℕ → List Order → Option Stop
first_refused policy J T [] = None
first_refused policy J T (o ∷ os) = stop_if (leg_refused policy J T o) (first_refused policy (leg_writes T o ∷ J) T os)

-- what a chain or a batch came to: an answer for each order, and the entries that join, the oldest first
pub record Outcome : Type 0 where
  pub answers : List Answer
  pub entries : List Record

abbrev pub all_are : Answer → List Order → Outcome
all_are a os = record { answers = replicate (length os) a; entries = [] }

-- one order its own answer, the others that their chain was refused
abbrev pub but_one : ℕ → Refusal → List Order → Outcome
but_one i r os = record { answers = slice_set (replicate (length os) (Err (refusal 11))) i (Err r); entries = [] }

abbrev pub by_legs : ℕ → List Order → Option Stop → Outcome
by_legs T os None = record { answers = replicate (length os) (Ok tt); entries = map (leg_writes T) os }
by_legs T os (Some s) = but_one s.place s.refusal os

abbrev pub chain : Policy → Journal → (T spare : ℕ) → List Order → Outcome
chain policy J T spare os =
    cond (unfinished os) (but_one (length os - 1) (refusal 12) os)
    (cond (nat_lt most_legs (length os)) (all_are (Err (refusal 13)) os)
    (cond (nat_lt spare (length os)) (all_are (Err (refusal 14)) os)
    (by_legs T os (first_refused policy J T os))))

-- J after these entries
abbrev pub grown : Journal → List Record → Journal
grown J [] = J
grown J (e ∷ es) = grown (e ∷ J) es

abbrev pub and_then : Outcome → Outcome → Outcome
and_then x y = record { answers = x.answers ++ y.answers; entries = x.entries ++ y.entries }

-- the chains one after another, each on what the one before left
abbrev pub in_turn : Policy → Journal → (T spare : ℕ) → List (List Order) → Outcome
in_turn policy J T spare [] = record { answers = []; entries = [] }
in_turn policy J T spare (c ∷ cs) =
    and_then (chain policy J T spare c) (in_turn policy (grown J (chain policy J T spare c).entries) T (spare - length (chain policy J T spare c).entries) cs)

abbrev pub batch : Policy → Journal → (T spare : ℕ) → List Order → Outcome
batch policy J T spare os = in_turn policy J T spare (chains os)

-- how many orders were taken
abbrev pub is_taken : Answer → ℕ
is_taken (Ok x) = 1
is_taken (Err r) = 0

abbrev pub taken : Outcome → ℕ
taken x = sum_of is_taken x.answers

-- why a batch with so many places for answers is refused as a whole, if it is
abbrev pub batch_refused : List Order → ℕ → Option Refusal
batch_refused os places = first_of ((nat_lt places (length os), refusal 15) ∷ [])
