-- The size and the type.
use mathlib.Core.Path.{refl}
use native.Mathlib.Omega.{arith}
use Rattle.octets.proofs.Stores.{◌▹◌, told}
use Rattle.octets.proofs.Output.write_box.Goals as goal

pub returns : goal.returns
returns c = told (c.w32.ensures ▹ c.put.ensures) refl (omega arith)
