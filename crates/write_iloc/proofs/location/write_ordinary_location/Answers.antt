-- The id, and what stands behind it.
use mathlib.Core.Path.{refl}
use native.Mathlib.Omega.{arith}
use Rattle.octets.proofs.Stores.{◌▹◌, told}
use Rattle.write_iloc.proofs.location.write_ordinary_location.Goals as goal

pub returns : goal.returns
returns c = told (c.write_ordinary_id.ensures ▹ c.write_extent.ensures) refl (omega arith)
