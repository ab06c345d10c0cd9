-- The head, the kind of colour, three codes and the range.
use mathlib.Core.Path.{refl}
use Rattle.octets.proofs.Stores.{◌▹◌, boxed}
use Rattle.write_properties.proofs.colr.write_colr_nclx.Goals as goal

pub returns : goal.returns
returns c =
    let primaries = rw c.code.ensures at c.w16.ensures in
    let transfer = rw c.code-2.ensures at c.w16-2.ensures in
    let matrix = rw c.code-3.ensures at c.w16-3.ensures in
    let range = rw c.when.ensures.value at c.w8.ensures in
    boxed "colr" c.write_box.ensures (c.put.ensures ▹ primaries ▹ transfer ▹ matrix ▹ range) refl
