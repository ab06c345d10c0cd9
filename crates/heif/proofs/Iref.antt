-- The length of a reference, and of iref, in every form.
use mathlib.Core.Path.{◌≡◌, refl}
use mathlib.Core.List.{List, [], ◌∷◌}
use Prim.Native.Nat.{ℕ, ◌+◌, ◌*◌}
use Prim.Native.String.{String}
use native.Mathlib.Nat.{mul_comm}
use native.Mathlib.Omega.{arith}
use lib.ListN.{length, length-append}
use Rattle.octets.specs.Numbers.{be}
use Rattle.octets.specs.Boxes.{boxes}
use Rattle.octets.proofs.Lists.{length-flat_map}
use Rattle.octets.proofs.Numbers.{length-be}
use Rattle.octets.proofs.Boxes.{length-boxes, length-boxes-append}
use Rattle.panel.specs.Form.{Form}
use Rattle.panel.specs.declared.Shape.{Shape}
use Rattle.heif.specs.Items.{ids_from, colour_grid, alpha_tile, alpha_grid, exif_id, gain_id}
use Rattle.heif.specs.Iref.{reference, gain_references, iref, reference_size, gain_references_size, iref_size}
use Rattle.heif.proofs.Items.{length-ids_from, boxes-given}

-- from one item to k others, the whole box
length-reference : (f : Form) (type : String) (from : ℕ) (to : List ℕ) {k : ℕ} → length to ≡ k → 8 + length (reference f type from to).body ≡ reference_size f k
length-reference f type from to {k} h =
    simp (length-append, length-be, length-flat_map (be f.id) f.id (length-be f.id), h) (omega (arith, mul_comm k f.id))

length-boxes-gain_references : (f : Form) (s : Shape) → length (boxes (gain_references f s)) ≡ gain_references_size f s
length-boxes-gain_references f s =
    let grid = colour_grid s in
    let g = gain_id s in
    let both = grid ∷ g ∷ [] in
    let gain = boxes-given s.gain (reference f "auxl" g (grid ∷ []) ∷ reference f "cdsc" (g + 1) (g ∷ []) ∷ []) {n = 2 * reference_size f 1}
    (omega (arith, length-reference f "auxl" g (grid ∷ []) refl, length-reference f "cdsc" (g + 1) (g ∷ []) refl)) in
    let tone = boxes-given s.tone (reference f "dimg" (g + 2) both ∷ []) {n = reference_size f 2} (omega (arith, length-reference f "dimg" (g + 2) both refl)) in
    simp (length-boxes-append, gain, tone)

pub length-iref : (f : Form) (s : Shape) → length (iref f s).body ≡ iref_size f s
length-iref f s =
    let n = s.tiles in
    let grid = colour_grid s in
    let alpha = alpha_grid s in
    let e = exif_id s in
    let exif = boxes-given s.exif (reference f "cdsc" e (grid ∷ []) ∷ []) {n = reference_size f 1} (omega (arith, length-reference f "cdsc" e (grid ∷ []) refl)) in
    simp (length-boxes-append, length-boxes, exif)
    (omega (
      arith,
      length-reference f "dimg" grid (ids_from 1 n) (length-ids_from 1 n),
      length-reference f "dimg" alpha (ids_from (alpha_tile s) n) (length-ids_from (alpha_tile s) n),
      length-reference f "auxl" alpha (grid ∷ []) refl,
      simp length-boxes-append at (length-boxes-gain_references f s),
    ))
