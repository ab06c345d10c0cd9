-- A size and two offsets, or nothing.
use mathlib.Core.Path.{refl}
use Rattle.octets.proofs.Stores.{◌▹◌, boxed, no_boxes}
use Rattle.write_properties.proofs.clap.write_clap.Goals as goal

pub returns-in-Some : goal.returns-in-Some
returns-in-Some c =
    rw c.in-Some.is
    (boxed "clap" c.write_box.ensures
    (c.w32.ensures ▹ c.w32-in-Some.ensures ▹ c.w32-in-Some-2.ensures ▹ c.w32-in-Some-3.ensures ▹ c.write_offset.ensures ▹ c.write_offset-in-Some.ensures) refl)

pub returns-in_default : goal.returns-in_default
returns-in_default c = rw c.in_default.is no_boxes
