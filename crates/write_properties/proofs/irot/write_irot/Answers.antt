-- One byte, or nothing.
use mathlib.Core.Path.{◌≡◌, refl}
use mathlib.Core.List.{[], ◌∷◌}
use Prim.Native.Nat.{ℕ, zero, suc, ◌<◌}
use native.Mathlib.Omega.{arith}
use Rattle.octets.specs.Numbers.{be}
use Rattle.octets.specs.Boxes.{box, optional}
use Rattle.octets.specs.Stores.{Boxed}
use Rattle.octets.specs.declared.Output.{Output}
use Rattle.octets.proofs.Stores.{boxed, no_boxes}
use Rattle.heif.specs.Irot.{irot_payload, irot_size}
use Rattle.write_properties.proofs.irot.write_irot.Goals as goal

-- a turn is a box
turned : {l o : Output} (steps : ℕ) → 0 < steps → Boxed l 9 (box "irot" (be 1 steps) ∷ []) o → Boxed l (irot_size steps) (optional "irot" (irot_payload steps)) o
turned zero h b = absurd (omega arith)
turned (suc k) h b = b

pub returns-then-steps-gt0 : goal.returns-then-steps-gt0
returns-then-steps-gt0 c = turned c.args.steps c.if-steps-gt0.true (boxed "irot" c.write_box.ensures c.w8.ensures refl)

pub returns-else-steps-gt0 : goal.returns-else-steps-gt0
returns-else-steps-gt0 c = let none : c.args.steps ≡ 0 = omega arith in rw none no_boxes
