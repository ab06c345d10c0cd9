-- 14496-12, 8.11.12: item reference box.
use Rattle.std.specs.Prelude.{cond, ℕ, ◌+◌, ◌*◌, length}
use mathlib.Core.List.{List, [], ◌∷◌, flat_map}
use Prim.Native.String.{String}
use Rattle.octets.specs.Numbers.{◌‖◌, be}
use Rattle.octets.specs.Boxes.{Box, box, full, boxes}
use Rattle.panel.specs.Form.{Form}
use Rattle.panel.specs.Parts.{given}
use Rattle.panel.specs.declared.Shape.{Shape}
use Rattle.heif.specs.Items.{ids_from, colour_grid, alpha_tile, alpha_grid, exif_id, gain_id, xmp_id, tone_id}

-- from one item to others. The box that holds it says by its version how many bits an id has; their count has 16 in each version
abbrev pub reference : Form → String → ℕ → List ℕ → Box
reference f type from to = box type (be f.id from ‖ be 2 (length to) ‖ flat_map (be f.id) to)

-- the gain image is auxiliary to the colour grid, its XMP describes it, and the tone map derives from both
abbrev pub gain_references : Form → Shape → List Box
gain_references f s =
    given s.gain (reference f "auxl" (gain_id s) (colour_grid s ∷ []) ∷ reference f "cdsc" (xmp_id s) (gain_id s ∷ []) ∷ [])
    ‖ given s.tone (reference f "dimg" (tone_id s) (colour_grid s ∷ gain_id s ∷ []) ∷ [])

-- each grid derives from its tiles, the alpha grid is auxiliary to the colour grid, and the Exif describes that
abbrev pub references : Form → Shape → List Box
references f s =
    reference f "dimg" (colour_grid s) (ids_from 1 s.tiles)
    ∷ reference f "dimg" (alpha_grid s) (ids_from (alpha_tile s) s.tiles)
    ∷ reference f "auxl" (alpha_grid s) (colour_grid s ∷ [])
    ∷ given s.exif (reference f "cdsc" (exif_id s) (colour_grid s ∷ []) ∷ [])
    ‖ gain_references f s

-- in version 0 the ids have 16 bits, in version 1 they have 32
abbrev pub iref : Form → Shape → Box
iref f s = full "iref" f.step 0 (boxes (references f s))

-- ---- how many bytes its body has

-- from one item to k others, the whole box
abbrev pub reference_size : Form → ℕ → ℕ
reference_size f k = 10 + f.id + f.id * k

-- of the gain image and its XMP, and of the tone map
abbrev pub gain_references_size : Form → Shape → ℕ
gain_references_size f s = cond s.gain (2 * reference_size f 1) 0 + cond s.tone (reference_size f 2) 0

abbrev pub iref_size : Form → Shape → ℕ
iref_size f s = 4 + 2 * reference_size f s.tiles + reference_size f 1 + cond s.exif (reference_size f 1) 0 + gain_references_size f s
