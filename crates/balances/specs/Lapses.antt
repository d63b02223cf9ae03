-- What falls due.
use Rattle.std.specs.Prelude.{ℕ, cond, Some, None, Option, nat_le}
use Rattle.std.specs.Option.{option_map, option_map_or}
use Rattle.ordered.specs.declared.due.Due.{Due}
use Rattle.balances.specs.Contents.{Books}
use Rattle.balances.specs.Legs.{lapsed}
use Rattle.balances.specs.Queues.{first}

-- the first of the queue, if its deadline has come
abbrev pub due_if : ℕ → Option Due → Option Due
due_if t None = None
due_if t (Some d) = cond (nat_le d.deadline t) (Some d) None

abbrev pub next_due : ℕ → Books → Option Due
next_due t k = due_if t (first k.queue)

-- the first of the queue lapses, if its deadline has come
abbrev pub lapsed_if : Option Due → Books → Books
lapsed_if None k = k
lapsed_if (Some d) k = lapsed d k

abbrev pub number_in : Option Due → Option ℕ
number_in o = option_map (λ (d : Due). d.number) o

abbrev pub deadline_in : Option Due → ℕ
deadline_in o = option_map_or (λ (d : Due). d.deadline) o 0
