-- Spans of a list.
use Rattle.std.specs.Prelude.{ℕ, Bool, ◌&&◌, List, nat_le, slice_range}
use Rattle.std.specs.List.{splice}
use Rattle.promise.specs.declared.call.Span.{Span}

-- the places are those of a list of this length
abbrev pub inside : Span → ℕ → Bool
inside s n = nat_le s.from s.to && nat_le s.to n

-- what stands there
abbrev pub part : {X : Type 0} → Span → List X → List X
part s xs = slice_range xs s.from s.to

-- something else there
abbrev pub lay : {X : Type 0} → Span → List X → List X → List X
lay s new xs = splice xs s.from s.to new
