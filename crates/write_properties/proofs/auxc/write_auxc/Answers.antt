-- The head, the type, and a zero byte.
use mathlib.Core.Path.{refl}
use native.Mathlib.Omega.{arith}
use Rattle.octets.proofs.Stores.{◌▹◌, full_boxed, retold}
use Rattle.write_properties.proofs.auxc.write_auxc.Goals as goal

pub returns : goal.returns
returns c = retold (full_boxed "auxC" 0 0 c.write_fullbox.ensures (c.put.ensures ▹ c.w8.ensures) (omega (arith, c.size_of.ensures))) refl (omega arith)
