-- The head and the id.
use mathlib.Core.Path.{refl}
use native.Mathlib.Omega.{arith}
use Rattle.octets.proofs.Stores.{retold}
use Rattle.write_ids.proofs.Forms.{raised}
use Rattle.write_boxes.proofs.pitm.write_pitm.Goals as goal

pub returns : goal.returns
returns c = retold (raised "pitm" _ 0 c.write_item_box.ensures c.write_id.ensures (omega arith)) refl (omega arith)
