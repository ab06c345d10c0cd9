-- 14496-12, 8.11.6: item information box.
use Rattle.std.specs.Prelude.{cond, List, [], ◌∷◌, map, ℕ, ◌+◌, ◌*◌, length}
use Prim.Native.String.{String}
use Rattle.octets.specs.Numbers.{◌‖◌, be, text}
use Rattle.octets.specs.Boxes.{Box, full, boxes}
use Rattle.panel.specs.Form.{Form}
use Rattle.panel.specs.Parts.{given}
use Rattle.panel.specs.declared.Shape.{Shape}
use Rattle.heif.specs.Items.{ids_from, colour_grid, alpha_tile, alpha_grid, exif_id, gain_id, last_id, xmp_id, tone_id}

-- flags 1 hide the item. Its id, protection index 0, its type, an empty name; of a mime item the content type. Types are there from
-- version 2 on; in that version the id has 16 bits, in version 3 it has 32
abbrev pub infe : Form → ℕ → ℕ → String → List ℕ → Box
infe f flags id type more = full "infe" (2 + f.step) flags (be f.id id ‖ be 2 0 ‖ text type ‖ be 1 0 ‖ more)

abbrev pub tile_infes : Form → ℕ → ℕ → List Box
tile_infes f first n = map (λ id. infe f 1 id "hvc1" []) (ids_from first n)

-- ---- the items by rising id: the colour picture's, the alpha picture's, the Exif, the gain map's

abbrev pub colour_infes : Form → Shape → List Box
colour_infes f s = tile_infes f 1 s.tiles ‖ infe f 0 (colour_grid s) "grid" [] ∷ []

abbrev pub alpha_infes : Form → Shape → List Box
alpha_infes f s = tile_infes f (alpha_tile s) s.tiles ‖ infe f 0 (alpha_grid s) "grid" [] ∷ []

-- the gain image and its XMP, and the tone map
abbrev pub gain_infes : Form → Shape → List Box
gain_infes f s =
    given s.gain (infe f 1 (gain_id s) "hvc1" [] ∷ infe f 1 (xmp_id s) "mime" (text "application/rdf+xml" ‖ be 1 0) ∷ [])
    ‖ given s.tone (infe f 0 (tone_id s) "tmap" [] ∷ [])

abbrev pub infes : Form → Shape → List Box
infes f s = colour_infes f s ‖ alpha_infes f s ‖ given s.exif (infe f 0 (exif_id s) "Exif" [] ∷ []) ‖ gain_infes f s

-- in version 0 the count has 16 bits, in version 1 it has 32
abbrev pub iinf : Form → Shape → Box
iinf f s = full "iinf" f.step 0 (be f.count (length (infes f s)) ‖ boxes (infes f s))

-- ---- how many bytes its body has: an entry for each item, as many as the last id

-- of an entry without a content type, as a whole box
abbrev pub infe_size : Form → ℕ
infe_size f = 19 + f.id

-- the content type of XMP and the 0 behind it
abbrev pub rdf_size : ℕ
rdf_size = 20

abbrev pub gain_infes_size : Form → Shape → ℕ
gain_infes_size f s = cond s.gain (2 * infe_size f + rdf_size) 0 + cond s.tone (infe_size f) 0

abbrev pub iinf_size : Form → Shape → ℕ
iinf_size f s = 4 + f.count + last_id s * infe_size f + cond s.gain rdf_size 0
