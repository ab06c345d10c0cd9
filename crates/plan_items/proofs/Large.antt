-- What the code's test of a grid's size says of the definition's.
use mathlib.Core.Path.{◌≡◌, refl}
use mathlib.Core.Bool.{Bool, true, false, cond}
use Prim.Native.Nat.{◌+◌, ◌≤◌}
use lib.Dec.{ltb}
use borrow.Author.Tests.{ltb-false}
use Rattle.octets.proofs.Tests.{or_false}
use Rattle.panel.specs.declared.GridDims.{GridDims}
use Rattle.heif.specs.Idat.{large}

-- where neither is great, both fit in 16 bits
pub narrow : (d : GridDims) → large d ≡ false → (d.full_w ≤ 65535) × (d.full_h ≤ 65535)
narrow d e =
    let sides = or_false (ltb 65535 d.full_w) (ltb 65535 d.full_h) e in
    (ltb-false 65535 d.full_w sides.0, ltb-false 65535 d.full_h sides.1)

-- four bytes and two sides
pub two_sides : (long : Bool) → 4 + (cond long 4 2 + cond long 4 2) ≡ cond long 12 8
two_sides true = refl
two_sides false = refl
