-- Five properties.
use mathlib.Core.Path.{refl}
use native.Mathlib.Omega.{arith}
use Rattle.octets.proofs.Stores.{retold, ◌▸◌}
use Rattle.write_properties.proofs.gain_map.write_image_properties.Goals as goal

pub returns : goal.returns
returns c =
    let depth = rw c.bits.ensures at c.write_pixi.ensures in
    retold (c.write_hvcc.ensures ▸ c.write_ispe.ensures ▸ depth ▸ c.write_auxc.ensures ▸ c.write_colr_nclx.ensures) refl (omega arith)
