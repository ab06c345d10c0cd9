-- Version, flags, rows and columns less one.
use Rattle.octets.proofs.Stores.{◌▹◌}
use Rattle.write_boxes.proofs.idat.write_grid_head.Goals as goal

pub returns : goal.returns
returns c =
    let rows = rw c.further_rows.ensures at c.w8-3.ensures in
    let cols = rw c.further_cols.ensures at c.w8-4.ensures in
    c.w8.ensures ▹ c.w8-2.ensures ▹ rows ▹ cols
