-- What putting the legs back makes of the tables.
use Rattle.std.specs.Prelude.{ℕ, Bool, cond, if◌then◌else◌, nat_le, Some, None, Option, List, [], ◌∷◌, length, take, slice_set}
use Rattle.meaning.specs.declared.record.Record.{Record}
use Rattle.ordered.specs.declared.due.Due.{Due}
use Rattle.balances.specs.declared.balances.Balances.{Balances}
use Rattle.balances.specs.Books.{books_of}
use Rattle.balances.specs.Contents.{Books}
use Rattle.balances.specs.Noted.{Trace, Noted, noted}

-- one leg put back: what it wrote over, the credit row first
abbrev pub undone : Trace → Books → Books
undone t k = record k {
  rows = slice_set (slice_set k.rows t.credit t.credit_was) t.debit t.debit_was;
  held = take t.reserved_was (slice_set k.held t.slot t.slot_was);
  highest = t.highest_was;
}

-- the legs put back, the latest first
abbrev pub unwound : List Trace → Books → Books
unwound [] k = k
unwound (t ∷ ts) k = undone t (unwound ts k)

abbrev pub noted_of : Balances → Noted
noted_of b = noted b.notes

-- how many legs are noted, and what they write into a journal
abbrev pub legs_of : Balances → ℕ
legs_of b = length (noted_of b).traces

abbrev pub written_of : Balances → List Record
written_of b = (noted_of b).records

-- what they write, where they are at most so many
abbrev pub written_within : ℕ → Balances → Option (List Record)
written_within most b = cond (nat_le (legs_of b) most) (Some (written_of b)) None

abbrev pub with_queue : List Due → Books → Books
with_queue q k = record k { queue = q }

-- the tables as at the opening of the chain
abbrev pub restored : Noted → Books → Books
restored n k = with_queue n.queue (unwound n.traces k)

abbrev pub rolled_back : Balances → Books
rolled_back b = restored (noted_of b) (books_of b)

-- the tables as they are where the chain was kept, else as at its opening
abbrev pub kept_or_back : Bool → Balances → Books
kept_or_back kept b = (if kept then books_of b else rolled_back b)
