-- The head of the box, the item, the count.
use mathlib.Core.Path.{◌≡◌, refl}
use Prim.Native.Nat.{◌+◌}
use native.Mathlib.Omega.{arith}
use Rattle.octets.proofs.Stores.{◌▹◌, told}
use Rattle.panel.specs.Form.{form_of}
use Rattle.heif.specs.Iref.{reference_size}
use Rattle.write_iref.proofs.reference.write_ref_head.Goals as goal

pub returns : goal.returns
returns c =
    let size : 10 + c.ids_bytes.result ≡ reference_size (form_of c.args.form) c.args.n = omega (arith, rw c.from.ensures at c.ids_bytes.ensures.value) in
    told (rw size at c.write_box.ensures ▹ c.write_id.ensures ▹ c.w16.ensures) refl (omega arith)
