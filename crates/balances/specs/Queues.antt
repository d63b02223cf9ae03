-- The keys of the queue and of the listing's lines.
use Rattle.std.specs.Prelude.{ℕ, List, Option, nat_le, slice_get}
use Rattle.std.specs.List.{prefix_len}
use Rattle.ordered.specs.declared.due.Due.{Due}
use Rattle.meaning.specs.Limits.{most_accounts, most_reservations}
use Rattle.meaning.specs.Basics.{put}
use Rattle.ordered.specs.declared.line.Line.{Line}
use Rattle.ordered.specs.Orders.{due_before, line_before}
use Rattle.ordered.specs.Rows.{if_room}

-- one more key, unless there are as many as reservations may be
abbrev pub joined : Due → List Due → List Due
joined k ks = if_room most_reservations (put due_before k) ks

abbrev pub first : {X : Type 0} → List X → Option X
first xs = slice_get xs 0

-- one more key, unless there are as many as accounts may be
abbrev pub listed : Line → List Line → List Line
listed k ks = if_room most_accounts (put line_before k) ks

-- how many at the front of the queue have a deadline that has come
abbrev pub due_count : ℕ → List Due → ℕ
due_count t ds = prefix_len (λ (d : Due). nat_le d.deadline t) ds

-- the key at a place
abbrev pub line_at : ℕ → List Line → Option Line
line_at i ks = slice_get ks i
