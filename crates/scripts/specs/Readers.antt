-- A script as it is read, one call after another: the orders of a call, its bounds, and what calls come to that are made as
-- they are read.
use Rattle.std.specs.Prelude.{ℕ, zero, suc, ◌≤◌, cond, List, [], length, take, drop, Ok, Err, Result, ◌==◌, nat_le}
use Rattle.std.specs.Borrow.{Bor}
use Rattle.meaning.specs.declared.order.Order.{Order}
use Rattle.meaning.specs.Calls.{State}
use Rattle.meaning.specs.Rules.{Policy}
use Rattle.scripts.specs.declared.bad.Bad.{Bad}
use Rattle.scripts.specs.declared.head.Head.{Head}
use Rattle.scripts.specs.declared.step.Step.{Step}
use Rattle.scripts.specs.declared.step.Step.TheVariants.{Open, Run, Move, Report, Account, Reservation, Moment, Reading}
use Rattle.scripts.specs.Courses.{Course, over_at, with_call}
use Rattle.scripts.specs.Forms.{Call, then_do, call_at, script_at}
use Rattle.scripts.specs.Limits.{most_orders, most_answers, most_lapses, most_bytes}

-- the orders of a call, which stand at the front of a list
abbrev pub orders_in : Step → List Order → List Order
orders_in (Open A) list = []
orders_in (Run n places) list = take n list
orders_in (Move t places) list = []
orders_in (Report places) list = []
orders_in (Account n) list = []
orders_in (Reservation n) list = []
orders_in Moment list = []
orders_in Reading list = []

-- its lists are no longer than allowed
abbrev pub Within : Step → Type 0
Within (Open A) = Unit {0}
Within (Run n places) = (n ≤ most_orders) × (places ≤ most_answers)
Within (Move t places) = places ≤ most_lapses
Within (Report places) = places ≤ most_bytes
Within (Account n) = Unit {0}
Within (Reservation n) = Unit {0}
Within Moment = Unit {0}
Within Reading = Unit {0}

abbrev pub with_list : List Order → Step → Call
with_list list s = record { step = s; orders = orders_in s list }

-- what is left when the next n bytes were to be read: all of them, where there are fewer
abbrev pub behind : ℕ → List ℕ → List ℕ
behind n bs = cond (nat_le n (length bs)) (drop n bs) bs

-- whether there is a result, whatever it is
abbrev pub whether : {X : Type 0} → Result X Bad → Result (Unit {0}) Bad
whether r = then_do r (λ _. Ok tt)

-- a script's head and the bytes of its calls, where they can all be read
abbrev pub to_run : List ℕ → Result (Head × List ℕ) Bad
to_run bs = then_do (script_at bs) (λ s. Ok (s.0, drop 14 bs))

abbrev pub seen : Result (Head × Bor (List ℕ)) Bad → Result (Head × List ℕ) Bad
seen r = then_do r (λ r. Ok (r.0, r.1.now))

-- what calls come to that are read one after another, and at most so many
module _ (policy : Policy) (room : ℕ) where
  abbrev pub with_read : State → Result (Call × List ℕ) Bad → (Call → List ℕ → Course) → Course
  with_read s (Ok r) f = f r.0 r.1
  with_read s (Err b) f = over_at s.moment (Err b)

  abbrev pub course_at : ℕ → State → List ℕ → ℕ → Course
  course_at zero s bs n = over_at s.moment (Ok tt)
  course_at (suc most) s bs n = cond (length bs == 0) (over_at s.moment (Ok tt)) (with_read s (call_at bs) (λ c rest. with_call policy room s c n (λ s' n'. course_at most s' rest n')))
