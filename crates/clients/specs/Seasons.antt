-- A season from nothing on: its policy, and the desk of its past.
use Rattle.std.specs.Prelude.{List, [], replicate, Ok}
use Rattle.meaning.specs.declared.entry.Entry.{Entry}
use Rattle.meaning.specs.declared.order.Order.{Order}
use Rattle.meaning.specs.Calls.{State}
use Rattle.meaning.specs.Limits.{most_reservations}
use Rattle.meaning.specs.Policies.{open_to_all, floor, ceiling, by_class}
use Rattle.meaning.specs.Rules.{Policy}
use Rattle.journal.specs.Rolls.{roll_room}
use Rattle.steps.specs.Written.{entries_of}
use Rattle.promise.specs.declared.call.Call.{Call}
use Rattle.promise.specs.declared.told.Told.TheVariants.{Nothing}
use Rattle.promise.specs.Takeovers.{Point}
use Rattle.promise.specs.Worlds.{World, final, adds_all}

abbrev pub season : Policy
season = by_class 2 open_to_all (by_class 3 floor ceiling)

abbrev pub before_all : World
before_all = record {
  state = record { journal = []; moment = 0; spare = roll_room };
  told = replicate 16 Nothing;
  answers = replicate 64 (Ok tt);
  lapses = replicate most_reservations 0;
  bytes = replicate 4096 0;
}

-- what the rules make of a past
abbrev pub season_was : List Order → List Call → State
season_was os past = (final season os before_all past).state

-- and what it has written
abbrev pub season_wrote : List Order → List Call → List Entry
season_wrote os past = entries_of (adds_all season os before_all past)

-- where a book stands then
abbrev pub season_point : List Order → List Call → Point
season_point os past = record {
  admits = season;
  reading = Ok tt;
  state = season_was os past;
  entries = season_wrote os past;
}
