-- The tiles' entries and the grid's.
use mathlib.Core.Path.{refl}
use native.Mathlib.Omega.{arith}
use Rattle.octets.proofs.Stores.{◌▸◌, retold}
use Rattle.write_iinf.proofs.picture.write_picture_infes.Goals as goal

pub returns : goal.returns
returns c = retold (c.write_tile_infes.ensures ▸ c.write_infe.ensures) refl (omega arith)
