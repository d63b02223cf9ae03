-- The two orders keep the laws of an order.
use Rattle.std.proofs.Common.{rules}
use Rattle.ordered.specs.Laws.{LawfulOrder}
use Rattle.ordered.specs.Orders.{due_before, line_before}

pub due_lawful : LawfulOrder due_before
due_lawful = record { irreflexive = search rules; transitive = search rules; total = search rules }

pub line_lawful : LawfulOrder line_before
line_lawful = record { irreflexive = search rules; transitive = search rules; total = search rules }
