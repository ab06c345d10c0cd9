-- The head, the group's id, the count, and the two items.
use mathlib.Core.Path.{refl}
use Rattle.octets.proofs.Stores.{◌▹◌, full_boxed}
use Rattle.write_boxes.proofs.grpl.write_altr.Goals as goal

pub returns : goal.returns
returns c = full_boxed "altr" 0 0 c.write_fullbox.ensures (c.w32.ensures ▹ c.w32-2.ensures ▹ c.w32-3.ensures ▹ c.w32-4.ensures) refl
