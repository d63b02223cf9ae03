-- What the types say of a leg's numbers.
use Rattle.std.specs.Prelude.{ℕ, ◌^◌, ◌<◌}

pub record Narrow (n d c : ℕ) : Type 0 where
  pub number : n < 2 ^ 32
  pub debit : d < 2 ^ 32
  pub credit : c < 2 ^ 32
