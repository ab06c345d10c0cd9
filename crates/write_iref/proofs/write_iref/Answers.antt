-- The head and the references.
use mathlib.Core.Path.{◌≡◌, refl, sym, ◌∙◌}
use mathlib.Core.Bool.{cond}
use Prim.Native.Nat.{◌+◌}
use native.Mathlib.Omega.{arith}
use Rattle.octets.proofs.Stores.{◌▸◌, retold}
use Rattle.panel.specs.Form.{Form, form_of}
use Rattle.panel.specs.declared.Shape.{Shape}
use Rattle.heif.specs.Iref.{reference_size, gain_references_size, iref_size}
use Rattle.write_ids.proofs.Forms.{raised}
use Rattle.write_ids.proofs.Optional.{list_present, size_present}
use Rattle.write_iref.proofs.write_iref.Goals as goal

whole : (f : Form) (s : Shape)
    → 12 + (reference_size f s.tiles + (reference_size f s.tiles + (reference_size f 1 + (cond s.exif (reference_size f 1) 0 + gain_references_size f s)))) ≡ 8 + iref_size f s
whole f s = omega arith

pub returns : goal.returns
returns c =
    let size = whole (form_of c.args.form) c.args.s in
    let color = rw (c.color-color.ensures.first, c.color-color.ensures.count, c.color-color.ensures.grid) at c.write_tile_refs.ensures in
    let alpha = rw (c.alpha-alpha.ensures.first, c.alpha-alpha.ensures.count, c.alpha-alpha.ensures.grid) at c.write_tile_refs-2.ensures in
    let auxiliary = rw (c.alpha-alpha.ensures.grid, c.color-color.ensures.grid) at c.write_ref.ensures in
    let exif = retold (rw (c.exif.ensures, c.color-color.ensures.grid) at c.write_given_ref.ensures) (list_present _ c.args.s.exif _) (size_present _ c.args.s.exif _) in
    let body = color ▸ alpha ▸ auxiliary ▸ exif ▸ c.write_gain_refs.ensures in
    retold (raised "iref" _ 0 c.write_item_box.ensures body.wrote (c.requires.whole ∙ sym size)) refl size
