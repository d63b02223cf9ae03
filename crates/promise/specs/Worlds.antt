-- What calls make of the state of a book and of the lists on a desk, by the rules alone: one call, and one after another.
use Rattle.std.specs.Prelude.{ℕ, ◌-◌, Bool, true, cond, ◌&&◌, List, [], ◌∷◌, ◌++◌, length, slice_set}
use Rattle.meaning.specs.declared.order.Order.{Order}
use Rattle.meaning.specs.declared.record.Record.{Record}
use Rattle.meaning.specs.Batches.{grown, taken, Answer}
use Rattle.meaning.specs.Calls.{State, answered, move_answer, opens_not, open_writes, runs_not, ran, run_writes, run_answers, moves_not, move_lapses, moved_to, reports_not, report_bytes, account_seen, reservation_seen}
use Rattle.meaning.specs.Listing.{listing}
use Rattle.meaning.specs.Reading.{reading as reading_of}
use Rattle.meaning.specs.Rules.{Policy}
use Rattle.promise.specs.declared.call.Ask.{Ask}
use Rattle.promise.specs.declared.call.Ask.TheVariants.{Open, Run, Move, Report, Account, Reservation, Moment, Reading}
use Rattle.promise.specs.declared.call.Call.{Call}
use Rattle.promise.specs.declared.told.Told.{Told}
use Rattle.promise.specs.declared.told.Told.TheVariants.{Opened, Ran, Moved as MovedOn, Reported, Account as AccountTold, Reservation as ReservationTold, Moment as At, Reading as ReadingTold}
use Rattle.promise.specs.Spans.{inside, part, lay}

pub record World : Type 0 where
  pub state : State
  pub told : List Told
  pub answers : List Answer
  pub lapses : List ℕ
  pub bytes : List ℕ

-- the state after these records were written and the moment is t
abbrev pub after : State → List Record → ℕ → State
after s new t = record { journal = grown s.journal new; moment = t; spare = s.spare - length new }

module _ (policy : Policy) (orders : List Order) (w : World) where
  -- each list of the call is one on the desk
  abbrev pub proper : Ask → Bool
  proper (Open A) = true
  proper (Run os ans) = inside os (length orders) && inside ans (length w.answers)
  proper (Move t ls) = inside ls (length w.lapses)
  proper (Report bs) = inside bs (length w.bytes)
  proper (Account n) = true
  proper (Reservation n) = true
  proper Moment = true
  proper Reading = true

  abbrev pub tells : Ask → Told
  tells (Open A) = Opened (answered (opens_not policy w.state A) tt)
  tells (Run os ans) = Ran (answered (runs_not policy w.state (part os orders) (part ans w.answers)) (taken (ran policy w.state (part os orders))))
  tells (Move t ls) = MovedOn (answered (moves_not policy w.state t (part ls w.lapses)) (move_answer w.state.journal w.state.moment t))
  tells (Report bs) = Reported (answered (reports_not policy w.state (part bs w.bytes)) (length (listing w.state.journal w.state.moment)))
  tells (Account n) = AccountTold (account_seen policy w.state n)
  tells (Reservation n) = ReservationTold (reservation_seen policy w.state n)
  tells Moment = At w.state.moment
  tells Reading = ReadingTold (reading_of policy w.state.journal)

  -- the records that join the journal
  abbrev pub writes : Ask → List Record
  writes (Open A) = open_writes policy w.state A
  writes (Run os ans) = run_writes policy w.state (part os orders) (part ans w.answers)
  writes (Move t ls) = []
  writes (Report bs) = []
  writes (Account n) = []
  writes (Reservation n) = []
  writes Moment = []
  writes Reading = []

  abbrev pub comes_to : Ask → ℕ
  comes_to (Open A) = w.state.moment
  comes_to (Run os ans) = w.state.moment
  comes_to (Move t ls) = moved_to policy w.state t (part ls w.lapses)
  comes_to (Report bs) = w.state.moment
  comes_to (Account n) = w.state.moment
  comes_to (Reservation n) = w.state.moment
  comes_to Moment = w.state.moment
  comes_to Reading = w.state.moment

  abbrev pub answers_after : Ask → List Answer
  answers_after (Open A) = w.answers
  answers_after (Run os ans) = lay ans (run_answers policy w.state (part os orders) (part ans w.answers)) w.answers
  answers_after (Move t ls) = w.answers
  answers_after (Report bs) = w.answers
  answers_after (Account n) = w.answers
  answers_after (Reservation n) = w.answers
  answers_after Moment = w.answers
  answers_after Reading = w.answers

  abbrev pub lapses_after : Ask → List ℕ
  lapses_after (Open A) = w.lapses
  lapses_after (Run os ans) = w.lapses
  lapses_after (Move t ls) = lay ls (move_lapses policy w.state t (part ls w.lapses)) w.lapses
  lapses_after (Report bs) = w.lapses
  lapses_after (Account n) = w.lapses
  lapses_after (Reservation n) = w.lapses
  lapses_after Moment = w.lapses
  lapses_after Reading = w.lapses

  abbrev pub bytes_after : Ask → List ℕ
  bytes_after (Open A) = w.bytes
  bytes_after (Run os ans) = w.bytes
  bytes_after (Move t ls) = w.bytes
  bytes_after (Report bs) = lay bs (report_bytes policy w.state (part bs w.bytes)) w.bytes
  bytes_after (Account n) = w.bytes
  bytes_after (Reservation n) = w.bytes
  bytes_after Moment = w.bytes
  bytes_after Reading = w.bytes

  abbrev pub made : Call → World
  made c = record {
    state = after w.state (writes c.ask) (comes_to c.ask);
    told = slice_set w.told c.at (tells c.ask);
    answers = answers_after c.ask;
    lapses = lapses_after c.ask;
    bytes = bytes_after c.ask;
  }

  -- one call; one whose lists are not on the desk does nothing
  abbrev pub next : Call → World
  next c = cond (proper c.ask) (made c) w

  abbrev pub adds : Call → List Record
  adds c = cond (proper c.ask) (writes c.ask) []

module _ (policy : Policy) (orders : List Order) where
  -- calls one after another
  abbrev pub final : World → List Call → World
  final w [] = w
  final w (c ∷ cs) = final (next policy orders w c) cs

  abbrev pub adds_all : World → List Call → List Record
  adds_all w [] = []
  adds_all w (c ∷ cs) = adds policy orders w c ++ adds_all (next policy orders w c) cs
