-- The head, the brands of every file, and the others.
use mathlib.Core.List.{append_assoc}
use native.Mathlib.Omega.{arith}
use Rattle.octets.proofs.Stores.{◌▹◌, boxed, retold}
use Rattle.write_boxes.proofs.ftyp.write_ftyp.Goals as goal

pub returns : goal.returns
returns c =
    let heix = rw c.adds_heix.ensures at c.write_extra_brand.ensures in
    retold (boxed "ftyp" c.write_box.ensures (c.write_brands.ensures ▹ heix ▹ c.write_extra_brand-2.ensures) (omega arith)) (simp append_assoc) (omega arith)
