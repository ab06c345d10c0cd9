-- The extras of a panel, told of the panel alone, and which lists have each of them once and nothing else. Nothing here speaks of the file.
use Rattle.std.specs.Prelude.{◌≡◌, Bool, false, ◌||◌, ◌&&◌, not, cond, List, ℕ, length, sum_by, eqb, ltb, Option, None, Some, is_some}
use native.Mathlib.Decide.{ℕ_discrete}
use Rattle.panel.specs.Panel.{Colour, Gain, Panel}
use Rattle.panel.specs.Types.{irot_steps, imir_axis}
use Rattle.panel.specs.Parts.{tone_of}
use Rattle.panel.specs.Agreement.{shown}
use Rattle.panel.specs.declared.color.Cicp.{Cicp}

-- each with the numbers that its share goes by: how many tiles a picture has, or how many bytes its parts have
pub data Extra : Type 0 where
  large_picture irot imir light_level : Extra
  visible_size : (tiles : ℕ) → Extra
  exif : (bytes : ℕ) → Extra
  icc_alone : (bytes : ℕ) → Extra
  icc_beside_cicp : (bytes : ℕ) → Extra
  gain_map : (hvcc sample xmp : ℕ) → Extra
  tone_map : (bytes : ℕ) → Extra
  alternate_cicp : Extra
  alternate_icc : (bytes : ℕ) → Extra
  deriving Discrete as Extra-discrete

infix 50 ◌has_bytes◌
-- whether a part is present and has so many bytes
abbrev pub ◌has_bytes◌ : Option (List ℕ) → ℕ → Bool
None has_bytes n = false
(Some l) has_bytes n = eqb (length l) n

-- whether there is a gain map whose record, sample and XMP have so many
abbrev pub gain_has_bytes : Option Gain → ℕ → ℕ → ℕ → Bool
gain_has_bytes None r s x = false
gain_has_bytes (Some g) r s x = eqb (length g.hvcc) r && eqb (length g.sample) s && eqb (length g.xmp) x

-- the alternate colour as agreement reads it: none without a tone map, and none that states nothing
abbrev pub alternate_of : Option Gain → Option Colour
alternate_of None = None
alternate_of (Some g) = shown g.tone g.alternate

abbrev pub cicp_of : Option Colour → Option Cicp
cicp_of None = None
cicp_of (Some c) = c.cicp

abbrev pub icc_of : Option Colour → Option (List ℕ)
icc_of None = None
icc_of (Some c) = c.icc

infix 50 ◌has◌
-- whether the panel has it
abbrev pub ◌has◌ : Panel → Extra → Bool
p has large_picture = ltb 65535 p.dims.full_w || ltb 65535 p.dims.full_h
p has irot = not (eqb (irot_steps p.metadata.orientation) 0)
p has imir = is_some (imir_axis p.metadata.orientation)
p has light_level = is_some p.metadata.light
p has (visible_size n) = is_some p.visible && eqb (length p.tiles.lengths) n
p has (exif e) = p.metadata.exif has_bytes e
p has (icc_alone c) = not (is_some p.colour.cicp) && p.colour.icc has_bytes c
p has (icc_beside_cicp c) = is_some p.colour.cicp && p.colour.icc has_bytes c
p has (gain_map r s x) = gain_has_bytes p.gain r s x
p has (tone_map t) = tone_of p.gain has_bytes t
p has alternate_cicp = is_some (cicp_of (alternate_of p.gain))
p has (alternate_icc c) = icc_of (alternate_of p.gain) has_bytes c

-- whether two are the same; by its type there is no other answer
abbrev pub same : (x y : Extra) → Dec (x ≡ y)
same = Extra-discrete ℕ_discrete

-- 1 for itself, 0 for another
abbrev pub once : Extra → Extra → ℕ
once x y = elim (same x y) [ yes e ↦ 1 | no e ↦ 0 ]

-- how often it stands in a list
abbrev pub times : Extra → List Extra → ℕ
times x l = sum_by (once x) l

infix 50 ◌lists◌
-- a list of the panel's extras, in whichever order: it has each of them once, and nothing else
abbrev pub ◌lists◌ : List Extra → Panel → Type 0
l lists p = (x : Extra) → times x l ≡ cond (p has x) 1 0
