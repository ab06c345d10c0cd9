-- A difference that wraps, which is its two's complement, and 2.
use mathlib.Core.Path.{refl, ap}
use Rattle.std.proofs.lemmas.Int.{ints}
use native.Mathlib.Omega.{arith}
use Rattle.octets.specs.Numbers.{be}
use Rattle.octets.proofs.Stores.{◌▹◌, told}
use Rattle.write_properties.proofs.clap.write_offset.Goals as goal

pub returns : goal.returns
returns c = told c.w32.ensures (ap (be 4) (grind (arith, ints))) refl ▹ c.w32-2.ensures
