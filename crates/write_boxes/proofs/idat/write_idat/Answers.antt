-- The head, and the descriptor twice.
use mathlib.Core.Path.{refl}
use native.Mathlib.Omega.{arith}
use Rattle.octets.proofs.Stores.{◌▹◌, boxed, retold}
use Rattle.write_boxes.proofs.idat.write_idat.Goals as goal

pub returns : goal.returns
returns c = retold (boxed "idat" c.write_box.ensures (c.write_descriptor.ensures ▹ c.write_descriptor-2.ensures) (omega arith)) refl (omega arith)
