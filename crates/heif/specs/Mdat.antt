-- 14496-12, 8.1.1: media data box, with the payloads of the tiles, the Exif and the gain map; 23008-12, annex A: the Exif's payload.
use Rattle.std.specs.Prelude.{cond, ℕ, ◌+◌, take, drop, length, Option, None, Some, is_some, option_to_list}
use mathlib.Core.List.{List, [], ◌∷◌, flatten}
use Rattle.octets.specs.Numbers.{◌‖◌, be, text, ◌begins_with◌}
use Rattle.octets.specs.Boxes.{Box, box}
use Rattle.panel.specs.Panel.{Gain, Panel}
use Rattle.panel.specs.Parts.{long}

-- ---- payloads, in the order of mdat

-- bytes that lie back to back, cut by their lengths
abbrev pub samples : List ℕ → List ℕ → List (List ℕ)
samples [] bytes = []
samples (n ∷ l) bytes = take n bytes ∷ samples l (drop n bytes)

-- the marker that Exif has in a JPEG file, and may have kept: "Exif" and two zero bytes
abbrev pub exif_marker : List ℕ
exif_marker = text "Exif" ‖ 0x00 ∷ 0x00 ∷ []

-- exif_tiff_header_offset: how many of the Exif bytes come before the TIFF header, the six of the marker or none
unfoldable pub tiff_header_offset : List ℕ → ℕ
tiff_header_offset exif = cond (exif begins_with exif_marker) 6 0

-- 23008-12, annex A, ExifDataBlock: the payload of an Exif item is that offset in 32 bits, then the Exif bytes as they are given
abbrev pub exif_data_block : List ℕ → List ℕ
exif_data_block exif = be 4 (tiff_header_offset exif) ‖ exif

-- where there is Exif, one payload
abbrev pub exif_payload : Option (List ℕ) → List (List ℕ)
exif_payload None = []
exif_payload (Some exif) = exif_data_block exif ∷ []

abbrev pub gain_payloads : Option Gain → List (List ℕ)
gain_payloads None = []
gain_payloads (Some g) = g.sample ∷ g.xmp ∷ option_to_list g.tone

-- of the items behind the alpha grid
abbrev pub other_payloads : Panel → List (List ℕ)
other_payloads p = exif_payload p.metadata.exif ‖ gain_payloads p.gain

abbrev pub payloads : Panel → List (List ℕ)
payloads p =
    samples p.tiles.lengths p.tiles.bytes
    ‖ samples p.alpha.lengths p.alpha.bytes
    ‖ other_payloads p

-- the payloads back to back
abbrev pub mdat : Panel → Box
mdat p = box "mdat" (flatten (payloads p))

-- ---- how many bytes its body has

-- the Exif payload: the offset of the TIFF header and the Exif bytes, where they are present
abbrev pub exif_size : Option (List ℕ) → ℕ
exif_size exif = cond (is_some exif) 4 0 + long exif

abbrev pub gain_data_size : Option Gain → ℕ
gain_data_size None = 0
gain_data_size (Some g) = length g.sample + length g.xmp + long g.tone

abbrev pub mdat_size : Panel → ℕ
mdat_size p =
    length p.tiles.bytes + length p.alpha.bytes + exif_size p.metadata.exif + gain_data_size p.gain
