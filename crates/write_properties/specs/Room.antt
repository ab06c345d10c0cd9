-- Room for boxes whose sizes are told in 32 bits.
use Rattle.std.specs.Prelude.{ℕ, ◌^◌, ◌<◌}
use Rattle.octets.specs.Stores.{Room}
use Rattle.octets.specs.declared.Output.{Output}

-- room for boxes of n bytes in all, so few that 32 bits tell the size of each
pub record BoxRoom (o : Output) (n : ℕ) : Type 0 where
  pub room : Room o n
  pub fits : n < 2 ^ 32
