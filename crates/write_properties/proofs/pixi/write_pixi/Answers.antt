-- The head, the count of channels, and the depth of each.
use mathlib.Core.Path.{refl}
use native.Mathlib.Omega.{arith}
use Rattle.octets.proofs.Stores.{◌▹◌, full_boxed, retold}
use Rattle.write_properties.proofs.pixi.write_pixi.Goals as goal

pub returns : goal.returns
returns g c = retold (full_boxed "pixi" 0 0 c.write_fullbox.ensures (c.w8.ensures ▹ c.put.ensures) (omega arith)) refl (omega arith)
