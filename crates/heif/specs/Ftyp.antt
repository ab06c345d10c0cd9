-- 14496-12, 4.3: file type box.
use Rattle.std.specs.Prelude.{Bool, cond, false, ◌&&◌, not, List, ℕ, ◌+◌, Option, None, Some}
use Rattle.octets.specs.Numbers.{text, ◌‖◌, be}
use Rattle.octets.specs.Boxes.{Box, box}
use Rattle.panel.specs.Panel.{Gain, Panel}
use Rattle.panel.specs.Parts.{given}
use Rattle.heif.specs.Items.{shape}
use Rattle.heif.specs.Hvcc.{rext}

-- of a picture whose record is rext or not
abbrev pub brand : Bool → List ℕ
brand r = cond r (text "heix") (text "heic")

-- whether there is a gain map whose record is rext
abbrev pub gain_rext : Option Gain → Bool
gain_rext None = false
gain_rext (Some g) = rext g.hvcc

-- major brand, minor version 0, compatible brands. colour and gain: the record is rext
abbrev pub ftyp : Bool → Bool → Bool → Box
ftyp colour gain tone =
    box "ftyp" (brand colour ‖ be 4 0 ‖ brand colour ‖ text "mif1" ‖ text "miaf" ‖ given (gain && not colour) (text "heix") ‖ given tone (text "tmap"))

-- with the panel's brands
abbrev pub head : Panel → Box
head p = ftyp (rext p.tiles.hvcc) (gain_rext p.gain) (shape p).tone

-- ---- how many bytes its body has: two brands, a version, mif1 and miaf; then those of the gain map

abbrev pub ftyp_size : Bool → Bool → Bool → ℕ
ftyp_size colour gain tone = 20 + cond (gain && not colour) 4 0 + cond tone 4 0

abbrev pub head_size : Panel → ℕ
head_size p = ftyp_size (rext p.tiles.hvcc) (gain_rext p.gain) (shape p).tone
