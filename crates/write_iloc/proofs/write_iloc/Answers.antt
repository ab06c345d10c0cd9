-- The head, the entries of both pictures, and the others.
use mathlib.Core.Path.{◌≡◌, refl, sym, ap, ◌∙◌}
use mathlib.Core.Bool.{cond}
use Prim.Native.Nat.{◌+◌, ◌*◌}
use native.Mathlib.Nat.{add-mul, one-mul}
use native.Mathlib.Omega.{arith}
use Rattle.octets.specs.Numbers.{be}
use Rattle.octets.proofs.Stores.{◌▹◌, told, full_boxed, retold}
use Rattle.panel.specs.Form.{Form, form_of}
use Rattle.panel.specs.declared.Shape.{Shape}
use Rattle.heif.specs.Iloc.{iloc_size, entry_size, gain_entries_size}
use Rattle.heif.proofs.Items.{times_given}
use Rattle.write_iloc.proofs.Locations.{entries_joined, length-placed}
use Rattle.write_iloc.proofs.write_iloc.Goals as goal

whole : (f : Form) (s : Shape)
    → 12 + (2 + (f.count + ((entry_size f * s.tiles + entry_size f) + ((entry_size f * s.tiles + entry_size f) + (cond s.exif (entry_size f) 0 + gain_entries_size f s))))) ≡ 8 + iloc_size f s
whole f s = simp (add-mul, times_given, one-mul) (omega arith)

pub returns : goal.returns
returns c =
    let f = form_of c.args.form in
    let s = c.args.s in
    let p = c.args.payloads in
    let cs = c.args.color.now in
    let ls = c.args.alpha.now in
    let color = rw (c.color-color_ids.ensures.first, c.color-color_ids.ensures.grid, c.requires.color_tiles) at c.write_picture_locations.ensures in
    let alpha = rw (c.alpha-alpha_ids.ensures.first, c.alpha-alpha_ids.ensures.grid, c.requires.alpha_tiles) at c.write_picture_locations-2.ensures in
    let entries = told (color ▹ alpha ▹ c.write_other_locations.ensures) (entries_joined f s p cs ls c.requires.toned) refl in
    let n = length-placed s p cs ls c.requires.color_tiles c.requires.alpha_tiles in
    let count = told c.write_count.ensures (ap (be f.count) (c.last_id.ensures.value ∙ sym n)) refl in
    retold (full_boxed "iloc" (1 + f.step) 0 c.write_item_box.ensures (c.w16.ensures ▹ count ▹ entries) (c.requires.whole ∙ sym (whole f s))) refl (whole f s)
