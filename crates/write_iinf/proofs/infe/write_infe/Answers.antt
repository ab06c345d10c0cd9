-- The head, the id, and what stands behind it.
use mathlib.Core.Path.{refl}
use Prim.Native.Nat.{◌+◌}
use native.Mathlib.Omega.{arith}
use Rattle.octets.proofs.Stores.{◌▹◌, full_boxed, retold}
use Rattle.panel.specs.Form.{form_of}
use Rattle.write_iinf.proofs.infe.write_infe.Goals as goal

pub returns : goal.returns
returns c =
    let head = rw c.when.ensures.value at c.write_item_box.ensures in
    retold (full_boxed "infe" (2 + (form_of c.args.form).step) _ head (c.write_id.ensures ▹ c.write_item_type.ensures) (omega arith)) refl (omega arith)
