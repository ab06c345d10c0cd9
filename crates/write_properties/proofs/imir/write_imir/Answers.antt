-- One byte, or nothing.
use mathlib.Core.Path.{◌≡◌, refl}
use mathlib.Core.Bool.{cond}
use native.Mathlib.Omega.{arith}
use Rattle.std.proofs.lemmas.Grind.{common_steps}
use Rattle.octets.proofs.Stores.{boxed, no_boxes}
use Rattle.write_properties.proofs.imir.write_imir.Goals as goal

pub returns-in-Some : goal.returns-in-Some
returns-in-Some c =
    let axis : c.from.result ≡ cond c.in-Some.axis 1 0 = grind (arith, common_steps) in
    rw c.in-Some.is (boxed "imir" c.write_box.ensures (rw axis at c.w8.ensures) refl)

pub returns-in_default : goal.returns-in_default
returns-in_default c = rw c.in_default.is no_boxes
