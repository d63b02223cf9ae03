-- The policies and journals that a head can name; what such a journal finds and leaves in the memory, and what is told of
-- it at the end.
use Rattle.std.specs.Prelude.{ℕ, ◌-◌, min, List, [], ◌++◌, length}
use Rattle.meaning.specs.declared.entry.Entry.{Entry}
use Rattle.meaning.specs.declared.record.Record.{Record}
use Rattle.meaning.specs.Policies.{by_class}
use Rattle.meaning.specs.Rules.{Policy}
use Rattle.journal.specs.Rolls.{roll_room}
use Rattle.journal.specs.Strips.{made_list, made_spare}
use Rattle.steps.specs.Written.{entries_of}
use Rattle.clients.specs.Rounds.{left, in_use}
use Rattle.scripts.specs.declared.head.JournalKind.{JournalKind}
use Rattle.scripts.specs.declared.head.JournalKind.TheVariants.{Roll, Strip, RollAndStrip, StripAndRoll}
use Rattle.scripts.specs.declared.head.PolicyKind.{PolicyKind}
use Rattle.scripts.specs.declared.head.PolicyKind.TheVariants.{Plain, ByClass}
use Rattle.scripts.specs.PlainPolicies.{admits_of}
use Rattle.scripts.specs.Told.{as_8, told_journal}

abbrev pub policy_named : PolicyKind → Policy
policy_named (Plain s) = admits_of s
policy_named (ByClass below class from) = by_class class (admits_of below) (admits_of from)

-- The journal that is made over the memory m, of which the first u bytes are in use.
module _ (m : List ℕ) (u : ℕ) where
  abbrev pub entries_found : JournalKind → List Entry
  entries_found Roll = []
  entries_found Strip = made_list m u
  entries_found RollAndStrip = []
  entries_found StripAndRoll = made_list m u

  abbrev pub spare_found : JournalKind → ℕ
  spare_found Roll = roll_room
  spare_found Strip = made_spare m u
  spare_found RollAndStrip = min (made_spare m u) roll_room
  spare_found StripAndRoll = min (made_spare m u) roll_room

  -- the memory when these records have joined
  abbrev pub memory_left : JournalKind → List Record → List ℕ
  memory_left Roll new = m
  memory_left Strip new = left m u new
  memory_left RollAndStrip new = left m u new
  memory_left StripAndRoll new = left m u new

  -- how much of the strip is in use then
  abbrev pub used_then : JournalKind → List Record → ℕ
  used_then Roll new = 0
  used_then Strip new = in_use m u new
  used_then RollAndStrip new = in_use m u new
  used_then StripAndRoll new = in_use m u new

  -- what is told at the end
  abbrev pub told_last : JournalKind → List Record → List ℕ
  told_last k new = told_journal (entries_found k ++ entries_of new) (spare_found k - length new) ++ as_8 (used_then k new)
