-- What a call, and a list of calls, makes of a book and of a desk.
use Rattle.std.specs.Prelude.{◌≡◌, List}
use Rattle.meaning.specs.declared.order.Order.{Order}
use Rattle.meaning.specs.declared.record.Record.{Record}
use Rattle.meaning.specs.Calls.{State}
use Rattle.journal.specs.declared.journal.Journal as journal
use Rattle.policy.specs.declared.policy.Policy as policy
use Rattle.steps.specs.Written.{Wrote}
use Rattle.book.specs.declared.book.Book.{Book}
use Rattle.book.specs.States.{policy_of, state_of}
use Rattle.promise.specs.declared.desk.Desk.{Desk}
use Rattle.promise.specs.declared.call.Call.{Call}
use Rattle.promise.specs.Worlds.{World, next, adds, final, adds_all}

-- the lists are where they were
pub record Same (d d' : Desk) : Type 0 where
  pub told : d'.told.ghost_name ≡ d.told.ghost_name
  pub answers : d'.answers.ghost_name ≡ d.answers.ghost_name
  pub lapses : d'.lapses.ghost_name ≡ d.lapses.ghost_name
  pub bytes : d'.bytes.ghost_name ≡ d.bytes.ghost_name

-- a state, and the lists of a desk
abbrev pub with_desk : State → Desk → World
with_desk s d = record { state = s; told = d.told.now; answers = d.answers.now; lapses = d.lapses.now; bytes = d.bytes.now }

module _ {J P : Type 0} (j : journal.Ghosts J) (p : policy.Ghosts P) where
  abbrev pub world_of : Book J P j p → Desk → World
  world_of b d = with_desk (state_of j p b) d

  -- book and desk are now those of the world w, and these records joined the journal
  pub record Made (b : Book J P j p) (w : World) (new : List Record) (b' : Book J P j p) (d' : Desk) : Type 0 where
    pub world : world_of b' d' ≡ w
    pub wrote : Wrote j b.journal new b'.journal
    pub policy : b'.policy ≡ b.policy
    pub reading : b'.reading ≡ b.reading

  -- what a call makes of them
  abbrev pub Calls : List Order → Book J P j p → Desk → Call → Book J P j p → Desk → Type 0
  Calls os b d c b' d' = Made b (next (policy_of j p b) os (world_of b d) c) (adds (policy_of j p b) os (world_of b d) c) b' d'

  -- and what one call after another does
  abbrev pub CallsAll : List Order → Book J P j p → Desk → List Call → Book J P j p → Desk → Type 0
  CallsAll os b d cs b' d' = Made b (final (policy_of j p b) os (world_of b d) cs) (adds_all (policy_of j p b) os (world_of b d) cs) b' d'
