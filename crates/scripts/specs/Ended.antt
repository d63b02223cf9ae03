-- How a script ends, and what it leaves in the caller's memory and output.
use Rattle.std.specs.Prelude.{ℕ, List, [], length, Ok, Err, Result}
use Rattle.meaning.specs.Calls.{over}
use Rattle.book.specs.States.{begins}
use Rattle.scripts.specs.declared.bad.Bad.{Bad}
use Rattle.scripts.specs.declared.bad.Bad.TheVariants.{Head as NoHead, Journal, Policy, Cut, Call as NoCall, Order, List as TooLong, Output}
use Rattle.scripts.specs.declared.head.Head.{Head}
use Rattle.scripts.specs.Courses.{Course, course, script_end, with_end}
use Rattle.scripts.specs.Forms.{Call}
use Rattle.scripts.specs.Runs.{policy_named, entries_found, spare_found, memory_left, told_last}

-- A script that can be read, over the memory m and the output o.
module _ (h : Head) (cs : List Call) (m o : List ℕ) where
  -- what its calls come to, by the rules
  abbrev pub went : Course
  went = course (policy_named h.policy) (length o) (begins (entries_found m h.used h.journal) (spare_found m h.used h.journal) (policy_named h.policy)) cs 0

  abbrev pub end_told : List ℕ
  end_told = told_last m h.used h.journal went.new

-- Any script, by what is read of it: a bad one ends by what is bad in it, is told nothing, and changes nothing.

abbrev pub ending : Result (Head × List Call) Bad → (m o : List ℕ) → Result (Unit {0}) Bad
ending (Ok (h, cs)) m o = script_end (length o) (went h cs m o) (end_told h cs m o)
ending (Err b) m o = Err b

-- the bytes that are told
abbrev pub told : Result (Head × List Call) Bad → (m o : List ℕ) → List ℕ
told (Ok (h, cs)) m o = with_end (ending (Ok (h, cs)) m o) (went h cs m o).told (end_told h cs m o)
told (Err b) m o = []

-- they stand at the front of the output, and the bytes behind them are as they were
abbrev pub output_after : Result (Head × List Call) Bad → (m o : List ℕ) → List ℕ
output_after read m o = over (told read m o) o

abbrev pub memory_after : Result (Head × List Call) Bad → (m o : List ℕ) → List ℕ
memory_after (Ok (h, cs)) m o = memory_left m h.used h.journal (went h cs m o).new
memory_after (Err b) m o = m

-- the number by which a caller is told how it ended
abbrev pub code_of : Bad → ℕ
code_of NoHead = 1
code_of Journal = 2
code_of Policy = 3
code_of Cut = 4
code_of NoCall = 5
code_of Order = 6
code_of TooLong = 7
code_of Output = 8

abbrev pub code_in : Result (Unit {0}) Bad → ℕ
code_in (Ok x) = 0
code_in (Err b) = code_of b
