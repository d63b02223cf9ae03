-- What a book begins with that is made of a memory's bytes, and what that memory holds when records have joined.
use Rattle.std.specs.Prelude.{ℕ, List, ◌++◌, length}
use Rattle.meaning.specs.declared.record.Record.{Record}
use Rattle.meaning.specs.Calls.{State}
use Rattle.meaning.specs.Rules.{Policy}
use Rattle.journal.specs.Strips.{made_bytes, made_list, made_spare, written_all, used_of}
use Rattle.steps.specs.Written.{entries_of}
use Rattle.book.specs.States.{begins}

-- m is the memory, and the first u of its bytes are in use
module _ (m : List ℕ) (u : ℕ) where
  abbrev pub found : Policy → State
  found = begins (made_list m u) (made_spare m u)

  -- the new records stand after those that were there, and no other byte has changed
  abbrev pub left : List Record → List ℕ
  left new = written_all (made_bytes m u) (length (made_list m u)) (entries_of new)

  -- how many of its bytes are in use then
  abbrev pub in_use : List Record → ℕ
  in_use new = used_of (left new) (length (made_list m u ++ entries_of new))
