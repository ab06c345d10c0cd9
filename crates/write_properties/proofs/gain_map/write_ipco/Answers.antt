-- The gain image's properties and the tone map's, or nothing.
use Rattle.octets.proofs.Stores.{no_boxes, ◌▸◌}
use Rattle.panel.specs.Of.{panel_of}
use Rattle.write_properties.proofs.gain_map.write_ipco.Goals as goal

pub returns-in-Some : goal.returns-in-Some
unfolding panel_of
returns-in-Some c =
    let tone = rw (c.from.ensures.size, c.from.ensures.bits) at c.write_tone_properties.ensures in
    rw c.in-Some.is (c.write_image_properties.ensures ▸ tone)

pub returns-in_default : goal.returns-in_default
unfolding panel_of
returns-in_default c = rw c.in_default.is no_boxes
