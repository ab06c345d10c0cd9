-- Two entries, or none.
use mathlib.Core.Path.{refl}
use native.Mathlib.Omega.{arith}
use Rattle.octets.proofs.Stores.{◌▸◌, retold, no_boxes}
use Rattle.write_iinf.proofs.gain_map.write_image_infes.Goals as goal

pub returns-then-has_gain : goal.returns-then-has_gain
returns-then-has_gain c =
    let image = rw c.gain_id.ensures at c.write_infe.ensures in
    let xmp = rw c.xmp_id.ensures at c.write_infe-then-has_gain.ensures in
    rw (← c.if-has_gain.ensures) (retold (image ▸ xmp) refl (omega arith))

pub returns-else-has_gain : goal.returns-else-has_gain
returns-else-has_gain c = rw (← c.if-has_gain.ensures) no_boxes
