-- The head and six fields.
use mathlib.Core.Path.{refl}
use Rattle.octets.proofs.Stores.{◌▹◌, full_boxed}
use Rattle.write_boxes.proofs.hdlr.write_hdlr.Goals as goal

pub returns : goal.returns
returns c = full_boxed "hdlr" 0 0 c.write_fullbox.ensures (c.w32.ensures ▹ c.put.ensures ▹ c.w32-2.ensures ▹ c.w32-3.ensures ▹ c.w32-4.ensures ▹ c.w8.ensures) refl
