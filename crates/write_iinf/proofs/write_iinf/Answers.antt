-- The head, the count, the entries of both pictures, the Exif's and the gain map's.
use mathlib.Core.Path.{◌≡◌, refl, sym, ap, ◌∙◌}
use mathlib.Core.Bool.{cond}
use Prim.Native.Nat.{◌+◌, ◌*◌}
use native.Mathlib.Nat.{add-mul, one-mul}
use native.Mathlib.Omega.{arith}
use Rattle.octets.specs.Numbers.{be}
use Rattle.octets.proofs.Stores.{◌▹◌, ◌▸◌, told, retold}
use Rattle.panel.specs.Form.{Form, form_of}
use Rattle.panel.specs.declared.Shape.{Shape}
use Rattle.heif.specs.Iinf.{infe_size, rdf_size, gain_infes_size, iinf_size}
use Rattle.heif.proofs.Iinf.{length-infes}
use Rattle.heif.proofs.Items.{times_given, plus_given}
use Rattle.write_ids.proofs.Forms.{raised}
use Rattle.write_ids.proofs.Optional.{list_present, size_present}
use Rattle.write_iinf.proofs.write_iinf.Goals as goal

whole : (f : Form) (s : Shape)
    → 12 + (f.count + ((infe_size f * s.tiles + infe_size f) + ((infe_size f * s.tiles + infe_size f) + (cond s.exif (infe_size f) 0 + gain_infes_size f s)))) ≡ 8 + iinf_size f s
whole f s = simp (add-mul, times_given, one-mul, plus_given s.gain (2 * infe_size f) rdf_size) (omega arith)

pub returns : goal.returns
returns c =
    let f = form_of c.args.form in
    let s = c.args.s in
    let color = rw (c.color.ensures.first, c.color.ensures.count, c.color.ensures.grid) at c.write_picture_infes.ensures in
    let alpha = rw (c.alpha.ensures.first, c.alpha.ensures.count, c.alpha.ensures.grid) at c.write_picture_infes-2.ensures in
    let exif = retold (rw c.exif.ensures at c.write_given_infe.ensures) (list_present _ s.exif _) (size_present _ s.exif _) in
    let body = color ▸ alpha ▸ exif ▸ c.write_gain_infes.ensures in
    let count = told c.write_count.ensures (ap (be f.count) (c.last_id.ensures.value ∙ sym (length-infes f s))) refl in
    retold (raised "iinf" _ 0 c.write_item_box.ensures (count ▹ body.wrote) (c.requires.whole ∙ sym (whole f s))) refl (whole f s)
