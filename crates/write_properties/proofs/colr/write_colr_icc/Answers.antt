-- The head, the kind of colour, and the profile.
use mathlib.Core.Path.{refl}
use native.Mathlib.Omega.{arith}
use Rattle.octets.proofs.Stores.{◌▹◌, boxed, retold}
use Rattle.write_properties.proofs.colr.write_colr_icc.Goals as goal

pub returns : goal.returns
returns c = retold (boxed "colr" c.write_box.ensures (c.put.ensures ▹ c.put-2.ensures) (omega (arith, c.size_of.ensures))) refl (omega arith)
