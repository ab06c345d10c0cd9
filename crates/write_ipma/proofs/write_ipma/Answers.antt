-- The head, the count, and the entries of both pictures and of the gain map.
use mathlib.Core.Path.{refl, sym, ap, ◌∙◌}
use native.Mathlib.Omega.{arith}
use Rattle.octets.specs.Numbers.{be}
use Rattle.octets.proofs.Stores.{◌▹◌, told, retold}
use Rattle.panel.specs.Form.{form_of}
use Rattle.heif.proofs.Ipma.{length-associations, length-ipma_entries, entries_joined}
use Rattle.plan_runs.specs.Roles.{its_of}
use Rattle.write_ids.proofs.Forms.{raised}
use Rattle.write_ipma.proofs.write_ipma.Goals as goal

pub write_picture_associations-requires : goal.write_picture_associations-requires
write_picture_associations-requires c =
    let e = c.color.ensures in
    rw (e.first, e.count, e.grid, c.color_tile_list.ensures, c.color_grid_list.ensures) (omega (arith, length-ipma_entries (form_of c.args.form) c.args.s (its_of c.args.y.now)))

pub write_picture_associations-requires-2 : goal.write_picture_associations-requires-2
write_picture_associations-requires-2 c =
    let e = c.color.ensures in
    let color = rw (e.first, e.count, e.grid, c.color_tile_list.ensures, c.color_grid_list.ensures) at c.write_picture_associations.ensures in
    let a = c.alpha.ensures in
    rw (a.first, a.count, a.grid, c.alpha_tile_list.ensures, c.alpha_grid_list.ensures)
    (omega (arith, length-ipma_entries (form_of c.args.form) c.args.s (its_of c.args.y.now), color.end, color.kept))

pub returns : goal.returns
returns c =
    let f = form_of c.args.form in
    let its = its_of c.args.y.now in
    let size = length-ipma_entries f c.args.s its in
    let count = told c.w32.ensures (ap (be 4) (c.associated_items.ensures ∙ sym (length-associations c.args.s its))) refl in
    let e = c.color.ensures in
    let color = rw (e.first, e.count, e.grid, c.color_tile_list.ensures, c.color_grid_list.ensures) at c.write_picture_associations.ensures in
    let a = c.alpha.ensures in
    let alpha = rw (a.first, a.count, a.grid, c.alpha_tile_list.ensures, c.alpha_grid_list.ensures) at c.write_picture_associations-2.ensures in
    let entries = told (color ▹ alpha ▹ c.write_gain_associations.ensures) (entries_joined f c.args.s its) refl in
    retold (raised "ipma" _ 0 c.write_item_box.ensures (count ▹ entries) (omega (arith, c.requires.size_value, size))) refl (omega (arith, size))
