-- The length of imir; and irot and imir together tell the orientation.
use mathlib.Core.Path.{◌≡◌, refl}
use mathlib.Core.Bool.{Bool}
use Rattle.std.specs.Prelude.{Option, None, Some}
use mathlib.Core.List.{List, [], ◌∷◌}
use Prim.Native.Nat.{ℕ, ◌+◌, ◌*◌}
use lib.ListN.{length, get_or}
use Rattle.octets.specs.Boxes.{optional, boxes}
use Rattle.octets.proofs.Boxes.{length_none, length-boxes}
use Rattle.panel.specs.Types.{irot_steps, imir_axis}
use Rattle.panel.specs.Codes.{named}
use Rattle.panel.specs.declared.metadata.Orientation.{Orientation}
use Rattle.panel.specs.declared.metadata.Orientation.TheVariants.{Normal, FlipH, Rotate180, FlipV, Transpose, Rotate90, Transverse, Rotate270}
use Rattle.panel.proofs.Codes.{code_inj}
use Rattle.heif.specs.Irot.{irot_payload}
use Rattle.heif.specs.Imir.{imir_payload, imir_size}

pub length-boxes-imir : (a : Option Bool) → length (boxes (optional "imir" (imir_payload a))) ≡ imir_size a
length-boxes-imir None = length_none
length-boxes-imir (Some a) = simp (length-boxes, length_none)

-- ---- orientation

-- the first byte, or d where there is none
lead : ℕ → Option (List ℕ) → ℕ
lead d None = d
lead d (Some x) = get_or x 0 0

turn_code : Orientation → ℕ
turn_code o = 4 * lead 0 (irot_payload (irot_steps o)) + lead 2 (imir_payload (imir_axis o))

turn_table : List Orientation
turn_table = Normal ∷ FlipH ∷ Rotate180 ∷ FlipV ∷ Transpose ∷ Rotate90 ∷ Transverse ∷ Rotate270 ∷ []

turn_found : (o : Orientation) → named turn_code turn_table (turn_code o) ≡ Some o
unfolding turn_code turn_table lead
turn_found Normal = refl
turn_found FlipH = refl
turn_found Rotate180 = refl
turn_found FlipV = refl
turn_found Transpose = refl
turn_found Rotate90 = refl
turn_found Transverse = refl
turn_found Rotate270 = refl

pub orientation_inj : (o u : Orientation) → irot_payload (irot_steps o) ≡ irot_payload (irot_steps u) → imir_payload (imir_axis o) ≡ imir_payload (imir_axis u) → o ≡ u
unfolding turn_code
orientation_inj o u r m = code_inj turn_code turn_table turn_found o u (λ i. 4 * lead 0 (r i) + lead 2 (m i))
