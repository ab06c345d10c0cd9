-- The length of a file in the ordinary form as a sum: of the bare file, of a share for each extra of the panel, and of what two extras cost
-- where they meet.
use Rattle.std.specs.Prelude.{◌&&◌, not, cond, List, ℕ, ◌+◌, ◌*◌, length, sum_by, Option, None, Some, is_some}
use Rattle.panel.specs.Panel.{Panel}
use Rattle.panel.specs.declared.color.Cicp.{Cicp}
use Rattle.heif.specs.Hvcc.{rext}
use Rattle.heif.specs.Ftyp.{gain_rext}
use Rattle.heif_length.specs.Extras.{Extra, large_picture, irot, imir, light_level, visible_size, exif, icc_alone, icc_beside_cicp}
use Rattle.heif_length.specs.Extras.{gain_map, tone_map, alternate_cicp, alternate_icc, ◌has◌}

-- the bytes that an extra adds, wherever in the file they stand
abbrev pub share : Extra → ℕ
share large_picture = 8
share irot = 11
share imir = 11
share light_level = 13
share (visible_size n) = 40 + 2 * n
share (exif e) = 55 + e
share (icc_alone c) = 12 + c
share (icc_beside_cicp c) = 13 + c
share (gain_map r s x) = 243 + r + s + x
share (tone_map t) = 134 + t
share alternate_cicp = 20
share (alternate_icc c) = 13 + c

-- what those of a list add
abbrev pub shares : List Extra → ℕ
shares l = sum_by share l

-- without any extra: two pictures of n tiles, their records and their samples, and the colour by code points
abbrev pub bare : Panel → ℕ
bare p =
    461 + 89 * length p.tiles.lengths + length p.tiles.hvcc + length p.alpha.hvcc + length p.tiles.bytes + length p.alpha.bytes

-- a profile alone stands in the place of the code points
abbrev pub replaced_colr : Option Cicp → Option (List ℕ) → ℕ
replaced_colr (Some c) icc = 0
replaced_colr None None = 0
replaced_colr None (Some i) = 19

abbrev pub replaced : Panel → ℕ
replaced p = replaced_colr p.colour.cicp p.colour.icc

-- a gain image takes irot and imir too, a byte for each; a range-extensions record of it brings a brand where the colour record did not
abbrev pub meetings : Panel → ℕ
meetings p =
    cond (is_some p.gain) (cond (p has irot) 1 0 + cond (p has imir) 1 0) 0
    + cond (gain_rext p.gain && not (rext p.tiles.hvcc)) 4 0
