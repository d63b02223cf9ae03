-- The two orders that rows are kept in.
use Rattle.std.specs.Prelude.{Bool, ◌&&◌, ◌||◌, ◌==◌, nat_lt}
use Rattle.ordered.specs.declared.due.Due.{Due}
use Rattle.ordered.specs.declared.line.Line.{Line}

-- by deadline, then by number
abbrev pub due_before : Due → Due → Bool
due_before a b = nat_lt a.deadline b.deadline || (a.deadline == b.deadline && nat_lt a.number b.number)

-- by ledger, then label, then number
abbrev pub line_before : Line → Line → Bool
line_before a b =
    nat_lt a.ledger b.ledger || (a.ledger == b.ledger && (nat_lt a.label b.label || (a.label == b.label && nat_lt a.number b.number)))
