-- The head, and one group.
use mathlib.Core.Path.{refl}
use Rattle.octets.proofs.Stores.{boxed}
use Rattle.write_boxes.proofs.grpl.write_group_box.Goals as goal

pub returns : goal.returns
returns c = boxed "grpl" c.write_box.ensures c.write_altr.ensures.wrote refl
