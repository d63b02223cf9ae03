-- What the rules make of a script's calls: what each is told, the records that join the journal, and the moment it comes to.
use Rattle.std.specs.Prelude.{ℕ, ◌+◌, cond, List, [], ◌∷◌, ◌++◌, length, replicate, Ok, Err, Result, nat_le}
use Rattle.meaning.specs.declared.order.Order.{Order}
use Rattle.meaning.specs.declared.record.Record.{Record}
use Rattle.meaning.specs.declared.refusal.Refusal.TheVariants.{AnswersTooShort}
use Rattle.meaning.specs.Batches.{Answer, taken}
use Rattle.meaning.specs.Calls.{State, answered, move_answer, opens_not, open_writes, runs_not, ran, run_writes, run_answers, moves_not, move_lapses, moved_to, reports_not, report_bytes, account_seen, reservation_seen}
use Rattle.meaning.specs.Listing.{listing}
use Rattle.meaning.specs.Reading.{reading as reading_of}
use Rattle.meaning.specs.Rules.{Policy}
use Rattle.promise.specs.Worlds.{after}
use Rattle.scripts.specs.declared.bad.Bad.{Bad}
use Rattle.scripts.specs.declared.bad.Bad.TheVariants.{Output}
use Rattle.scripts.specs.declared.step.Step.{Step}
use Rattle.scripts.specs.declared.step.Step.TheVariants.{Open, Run, Move, Report, Account, Reservation, Moment, Reading}
use Rattle.scripts.specs.Forms.{Call, then_do}
use Rattle.scripts.specs.Told.{told_opened, told_ran, told_moved, told_reported, told_account, told_reservation, told_moment, told_reading}

-- what stands in the lists before a call
abbrev pub no_answers : ℕ → List Answer
no_answers places = replicate places (Err AnswersTooShort)

abbrev pub no_lapses : ℕ → List ℕ
no_lapses places = replicate places 4294967295

abbrev pub no_bytes : ℕ → List ℕ
no_bytes places = replicate places 165

module _ (policy : Policy) (s : State) (os : List Order) where
  abbrev pub tells : Step → List ℕ
  tells (Open A) = told_opened (answered (opens_not policy s A) tt)
  tells (Run n places) = told_ran (answered (runs_not policy s os (no_answers places)) (taken (ran policy s os))) (run_answers policy s os (no_answers places))
  tells (Move t places) = told_moved (answered (moves_not policy s t (no_lapses places)) (move_answer s.journal s.moment t)) (move_lapses policy s t (no_lapses places))
  tells (Report places) = told_reported (answered (reports_not policy s (no_bytes places)) (length (listing s.journal s.moment))) (report_bytes policy s (no_bytes places))
  tells (Account n) = told_account (account_seen policy s n)
  tells (Reservation n) = told_reservation (reservation_seen policy s n)
  tells Moment = told_moment s.moment
  tells Reading = told_reading (reading_of policy s.journal)

  -- the records that join the journal
  abbrev pub writes : Step → List Record
  writes (Open A) = open_writes policy s A
  writes (Run n places) = run_writes policy s os (no_answers places)
  writes (Move t places) = []
  writes (Report places) = []
  writes (Account n) = []
  writes (Reservation n) = []
  writes Moment = []
  writes Reading = []

  abbrev pub comes_to : Step → ℕ
  comes_to (Open A) = s.moment
  comes_to (Run n places) = s.moment
  comes_to (Move t places) = moved_to policy s t (no_lapses places)
  comes_to (Report places) = s.moment
  comes_to (Account n) = s.moment
  comes_to (Reservation n) = s.moment
  comes_to Moment = s.moment
  comes_to Reading = s.moment

-- What a list of calls comes to: what was told, the records that joined the journal, the moment, and how it ended.
pub record Course : Type 0 where
  pub told : List ℕ
  pub new : List Record
  pub moment : ℕ
  pub ended : Result (Unit {0}) Bad

-- one that ends at once
abbrev pub over_at : ℕ → Result (Unit {0}) Bad → Course
over_at t r = record { told = []; new = []; moment = t; ended = r }

-- one with a call before it
abbrev pub told_before : List ℕ → List Record → Course → Course
told_before told new c = record { told = told ++ c.told; new = new ++ c.new; moment = c.moment; ended = c.ended }

module _ (policy : Policy) (room : ℕ) where
  -- a call, and what follows it. The output has n bytes already, and room for so many: where what it is told has none, it
  -- was made all the same, and is the last one.
  abbrev pub with_call : State → Call → ℕ → (State → ℕ → Course) → Course
  with_call s c n rest =
      let told = tells policy s c.orders c.step in
      let new = writes policy s c.orders c.step in
      let t = comes_to policy s c.orders c.step in
      cond (nat_le (n + length told) room) (told_before told new (rest (after s new t) (n + length told))) (record { told = []; new = new; moment = t; ended = Err Output })

  -- calls one after another
  abbrev pub course : State → List Call → ℕ → Course
  course s [] n = over_at s.moment (Ok tt)
  course s (c ∷ cs) n = with_call s c n (λ s' n'. course s' cs n')

-- how a script ends whose calls came to c, in an output of so much room: where all of them went through, the end is told,
-- if it has room
abbrev pub script_end : (room : ℕ) → Course → (end : List ℕ) → Result (Unit {0}) Bad
script_end room c end = then_do c.ended (λ _. cond (nat_le (length c.told + length end) room) (Ok tt) (Err Output))

-- what was told, and the end where it was told
abbrev pub with_end : Result (Unit {0}) Bad → List ℕ → List ℕ → List ℕ
with_end (Ok x) told end = told ++ end
with_end (Err b) told end = told
