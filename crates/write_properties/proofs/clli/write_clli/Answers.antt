-- Two numbers, or nothing.
use mathlib.Core.Path.{refl}
use Rattle.octets.proofs.Stores.{◌▹◌, boxed, no_boxes}
use Rattle.write_properties.proofs.clli.write_clli.Goals as goal

pub returns-in-Some : goal.returns-in-Some
returns-in-Some c = rw c.in-Some.is (boxed "clli" c.write_box.ensures (c.w16.ensures ▹ c.w16-in-Some.ensures) refl)

pub returns-in_default : goal.returns-in_default
returns-in_default c = rw c.in_default.is no_boxes
