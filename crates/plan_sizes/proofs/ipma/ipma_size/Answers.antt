-- The head, the entries of each picture, and those of the gain image and the tone map, where they are.
use native.Mathlib.Omega.{arith}
use Rattle.panel.specs.Form.{form_of}
use Rattle.heif.specs.Items.{colour_grid, alpha_tile, alpha_grid}
use Rattle.heif.specs.Ipma.{colour_tile_list, colour_grid_list, alpha_tile_list, alpha_grid_list}
use Rattle.heif.proofs.Ipma.{length_picture, length-gain_entries, length-ipma_entries}
use Rattle.plan_runs.specs.Roles.{its_of}
use Rattle.plan_sizes.proofs.ipma.ipma_size.Goals as goal

pub returns-clause-value : goal.returns-clause-value
returns-clause-value c =
    let s = c.args.s in
    let f = form_of c.args.form in
    let its = its_of c.args.places.now in
    let color = length_picture f 1 s.tiles (colour_grid s) (colour_tile_list its) (colour_grid_list its) in
    let alpha = length_picture f (alpha_tile s) s.tiles (alpha_grid s) (alpha_tile_list its) (alpha_grid_list its) in
    grind (arith, color, alpha, length-gain_entries f s its, length-ipma_entries f s its)
