-- The head, and the payloads in their order.
use mathlib.Core.Path.{refl}
use native.Mathlib.Omega.{arith}
use Rattle.octets.proofs.Stores.{◌▹◌, boxed, retold}
use Rattle.panel.specs.Of.{panel_of}
use Rattle.write_boxes.proofs.mdat.write_mdat.Goals as goal

pub returns : goal.returns
unfolding panel_of
returns c =
    let parts = c.put.ensures ▹ c.put-2.ensures ▹ c.write_exif_payload.ensures ▹ c.write_gain_payloads.ensures in
    retold (boxed "mdat" c.write_box.ensures parts (omega arith)) refl (omega arith)
