-- Five numbers.
use mathlib.Core.Path.{refl}
use native.Mathlib.Omega.{arith}
use Rattle.octets.proofs.Stores.{◌▹◌, told}
use Rattle.write_iloc.proofs.location.write_extent.Goals as goal

pub returns : goal.returns
returns c =
    let method = rw c.from.ensures at c.w16.ensures in
    told (method ▹ c.w16-2.ensures ▹ c.w16-3.ensures ▹ c.w32.ensures ▹ c.w32-2.ensures) refl (omega arith)
