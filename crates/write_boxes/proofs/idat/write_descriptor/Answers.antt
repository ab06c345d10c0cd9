-- The head, and two sides, which take 32 bits in a large picture.
use mathlib.Core.Path.{refl}
use Rattle.octets.proofs.Stores.{◌▹◌, told}
use Rattle.heif.specs.Idat.{large}
use Rattle.plan_items.proofs.Large.{two_sides}
use Rattle.write_boxes.proofs.idat.write_descriptor.Goals as goal

pub returns : goal.returns
returns c =
    let head = rw (c.when.ensures.value, c.is_large-large.ensures, c.dims-d.ensures) at c.write_grid_head.ensures in
    let width = rw (c.is_large-large.ensures, c.dims-d.ensures) at c.write_side.ensures in
    let height = rw (c.is_large-large.ensures, c.dims-d.ensures) at c.write_side-2.ensures in
    told (head ▹ width ▹ height) refl (two_sides (large c.args.grid))
