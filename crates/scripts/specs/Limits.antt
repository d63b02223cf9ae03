-- How long the lists of a call may be at most.
use Rattle.std.specs.Prelude.{ℕ}

-- a batch's orders
abbrev pub most_orders : ℕ
most_orders = 64

-- the places for their answers
abbrev pub most_answers : ℕ
most_answers = 64

-- the places for what lapses
abbrev pub most_lapses : ℕ
most_lapses = 300

-- a report's buffer: long enough for 64 account lines of 98 bytes and 64 sum lines of 91
abbrev pub most_bytes : ℕ
most_bytes = 12096
