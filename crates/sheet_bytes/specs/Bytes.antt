-- The sheet of a panel: its fields as bytes, in the order in which a sheet has them.
use Rattle.std.specs.Prelude.{Bool, cond, ℕ, ◌+◌, ◌*◌, length, Option, None, Some, is_some}
use mathlib.Core.List.{List, [], flat_map}
use Rattle.octets.specs.Numbers.{◌‖◌, be}
use Rattle.panel.specs.Types.{primaries_code, transfer_code, matrix_code}
use Rattle.panel.specs.Panel.{Colour, Metadata, Gain, Panel}
use Rattle.panel.specs.Parts.{tone_of}
use Rattle.panel.specs.declared.GridDims.{GridDims}
use Rattle.panel.specs.declared.color.Cicp.{Cicp}
use Rattle.panel.specs.declared.metadata.ContentLightLevel.{ContentLightLevel}
use Rattle.panel.specs.declared.metadata.Orientation.{Orientation}
use Rattle.panel.specs.declared.metadata.Orientation.TheVariants.{Normal, FlipH, Rotate180, FlipV, Transpose, Rotate90, Transverse, Rotate270}
use Rattle.panel.specs.Codes.{depth_code, orientation_code, bool_code}
use Rattle.sheet_frame.specs.declared.map.Map.{Map}
use Rattle.sheet.specs.Sheet.{Pictures}

abbrev pub string_bytes : List ℕ → List ℕ
string_bytes x = be 4 (length x) ‖ x

abbrev pub cicp_bytes : Cicp → List ℕ
cicp_bytes c = be 2 (primaries_code c.primaries) ‖ be 2 (transfer_code c.transfer) ‖ be 2 (matrix_code c.matrix) ‖ be 1 (bool_code c.full_range)

-- what is absent has no bytes
abbrev pub optional_bytes : {A : Type 0} → (A → List ℕ) → Option A → List ℕ
optional_bytes print None = []
optional_bytes print (Some a) = print a

abbrev pub dims_bytes : GridDims → List ℕ
dims_bytes d = be 2 d.cols ‖ be 2 d.rows ‖ be 4 d.tile_w ‖ be 4 d.tile_h ‖ be 4 d.full_w ‖ be 4 d.full_h

abbrev pub lengths_bytes : List ℕ → List ℕ
lengths_bytes l = flat_map (be 4) l

abbrev pub pictures_bytes : Pictures → List ℕ
pictures_bytes p =
    string_bytes p.colour.hvcc
    ‖ string_bytes p.alpha.hvcc
    ‖ lengths_bytes p.colour.lengths
    ‖ lengths_bytes p.alpha.lengths
    ‖ p.colour.bytes
    ‖ p.alpha.bytes

abbrev pub colour_bytes : Colour → List ℕ
colour_bytes c = optional_bytes cicp_bytes c.cicp ‖ optional_bytes string_bytes c.icc

-- an orientation that is Normal is left out
abbrev pub turned : Orientation → Option Orientation
turned Normal = None
turned FlipH = Some FlipH
turned Rotate180 = Some Rotate180
turned FlipV = Some FlipV
turned Transpose = Some Transpose
turned Rotate90 = Some Rotate90
turned Transverse = Some Transverse
turned Rotate270 = Some Rotate270

abbrev pub orientation_bytes : Orientation → List ℕ
orientation_bytes o = be 1 (orientation_code o)

abbrev pub light_bytes : ContentLightLevel → List ℕ
light_bytes l = be 2 l.max_content_light_level ‖ be 2 l.max_pic_average_light_level

abbrev pub metadata_bytes : Metadata → List ℕ
metadata_bytes m = optional_bytes orientation_bytes (turned m.orientation) ‖ optional_bytes light_bytes m.light ‖ optional_bytes string_bytes m.exif

abbrev pub image_bytes : Gain → List ℕ
image_bytes g =
    string_bytes g.hvcc
    ‖ string_bytes g.sample
    ‖ be 4 g.width
    ‖ be 4 g.height
    ‖ be 1 (depth_code g.depth)
    ‖ cicp_bytes g.cicp
    ‖ string_bytes g.xmp

abbrev pub cicp_in : Option Colour → Option Cicp
cicp_in None = None
cicp_in (Some c) = c.cicp

abbrev pub icc_in : Option Colour → Option (List ℕ)
icc_in None = None
icc_in (Some c) = c.icc

abbrev pub alternate_bytes : Option Colour → List ℕ
alternate_bytes a = optional_bytes cicp_bytes (cicp_in a) ‖ optional_bytes string_bytes (icc_in a)

abbrev pub gain_bytes : Gain → List ℕ
gain_bytes g = image_bytes g ‖ optional_bytes string_bytes g.tone ‖ alternate_bytes g.alternate

abbrev pub alternate_in : Option Gain → Option Colour
alternate_in None = None
alternate_in (Some g) = g.alternate

-- which of the fields that may be left out a panel has
abbrev pub present : Panel → Map
present p =
    record {
      cicp = is_some p.colour.cicp;
      icc = is_some p.colour.icc;
      orientation = is_some (turned p.metadata.orientation);
      light_level = is_some p.metadata.light;
      exif = is_some p.metadata.exif;
      gain_map = is_some p.gain;
      tmap = is_some (tone_of p.gain);
      alternate_cicp = is_some (cicp_in (alternate_in p.gain));
      alternate_icc = is_some (icc_in (alternate_in p.gain));
    }

abbrev pub weight : Bool → ℕ
weight b = cond b 1 0

abbrev pub bits_of : Map → ℕ
bits_of m =
    weight m.cicp + 2 * weight m.icc + 4 * weight m.orientation + 8 * weight m.light_level + 16 * weight m.exif
    + 32 * weight m.gain_map + 64 * weight m.tmap + 128 * weight m.alternate_cicp + 256 * weight m.alternate_icc

abbrev pub pictures_in : Panel → Pictures
pictures_in p = record { colour = p.tiles; alpha = p.alpha }

unfoldable pub sheet_bytes : Panel → List ℕ
sheet_bytes p =
    be 2 (bits_of (present p))
    ‖ dims_bytes p.dims
    ‖ be 1 (depth_code p.depth)
    ‖ be 1 (depth_code p.alpha_depth)
    ‖ pictures_bytes (pictures_in p)
    ‖ colour_bytes p.colour
    ‖ metadata_bytes p.metadata
    ‖ optional_bytes gain_bytes p.gain
