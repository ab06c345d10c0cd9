-- The panel sheet: the panel that a list of bytes says, or the first refusal in reading order.
use Rattle.std.specs.Prelude.{Bool, cond, List, ℕ, ◌*◌, ltb, length, Option, None, unwrap_or}
use Rattle.octets.specs.Numbers.{total}
use Rattle.panel.specs.Panel.{Tiles, Colour, Metadata, Gain, Panel}
use Rattle.panel.specs.Agreement.{filled}
use Rattle.panel.specs.declared.metadata.ContentLightLevel.{ContentLightLevel}
use Rattle.panel.specs.declared.metadata.Orientation.{Orientation}
use Rattle.panel.specs.declared.metadata.Orientation.TheVariants.{Normal}
use Rattle.sheet_fields.specs.Read.{Reader, stop, give, ◌then◌}
use Rattle.sheet_fields.specs.Fields.{bytes, number, string, lengths, optional}
use Rattle.sheet_fields.specs.Codes.{depth, orientation, cicp}
use Rattle.sheet_frame.specs.Map.{sheet_map}
use Rattle.sheet_frame.specs.Frame.{dims, end}
use Rattle.sheet_frame.specs.declared.map.Map.{Map}

-- the colour picture and the alpha picture
pub record Pictures : Type 0 where
  pub colour : Tiles
  pub alpha : Tiles

-- both records, n lengths for each, and bytes for the sum of the lengths
unfoldable pub two_pictures : ℕ → Reader Pictures
two_pictures n =
    string then λ colour_hvcc.
    string then λ alpha_hvcc.
    lengths n then λ colour_lengths.
    lengths n then λ alpha_lengths.
    bytes (total colour_lengths) then λ colour_bytes.
    bytes (total alpha_lengths) then λ alpha_bytes.
    give (record {
      colour = record { hvcc = colour_hvcc; lengths = colour_lengths; bytes = colour_bytes };
      alpha = record { hvcc = alpha_hvcc; lengths = alpha_lengths; bytes = alpha_bytes };
    })

-- ---- then only fields whose bit stands, lowest first

-- code points, and a profile
unfoldable pub colour : Bool → Bool → Reader Colour
colour has_cicp has_icc =
    optional has_cicp cicp then λ c.
    optional has_icc string then λ icc.
    give (record { cicp = c; icc = icc })

-- Normal if its bit is off
unfoldable pub oriented : Bool → Reader Orientation
oriented stands = optional stands orientation then λ o. give (unwrap_or o Normal)

unfoldable pub light : Reader ContentLightLevel
light =
    number 2 then λ most.
    number 2 then λ average.
    give (record { max_content_light_level = most; max_pic_average_light_level = average })

unfoldable pub metadata : Map → Reader Metadata
metadata m =
    oriented m.orientation then λ o.
    optional m.light_level light then λ l.
    optional m.exif string then λ exif.
    give (record { orientation = o; light = l; exif = exif })

-- the gain map's own fields
unfoldable pub image : Reader Gain
image =
    string then λ hvcc.
    string then λ sample.
    number 4 then λ width.
    number 4 then λ height.
    depth then λ d.
    cicp then λ c.
    string then λ xmp.
    give (record { hvcc = hvcc; sample = sample; width = width; height = height; depth = d; cicp = c; xmp = xmp; tone = None; alternate = None })

-- an alternate colour is there if one of its two fields is
unfoldable pub alternate : Map → Reader (Option Colour)
alternate m = colour m.alternate_cicp m.alternate_icc then λ c. give (filled c.cicp c.icc)

abbrev pub toned : Gain → Option (List ℕ) → Option Colour → Gain
toned g tone other = record { hvcc = g.hvcc; sample = g.sample; width = g.width; height = g.height; depth = g.depth; cicp = g.cicp; xmp = g.xmp; tone = tone; alternate = other }

unfoldable pub gain : Map → Reader Gain
gain m =
    image then λ g.
    optional m.tmap string then λ tone.
    alternate m then λ other.
    give (toned g tone other)

-- ---- the sheet

unfoldable pub fields : Reader Panel
fields =
    sheet_map then λ m.
    dims then λ d.
    depth then λ k.
    depth then λ a.
    two_pictures (d.rows * d.cols) then λ p.
    colour m.cicp m.icc then λ c.
    metadata m then λ x.
    optional m.gain_map (gain m) then λ g.
    end (record { dims = d; visible = None; depth = k; alpha_depth = a; tiles = p.colour; alpha = p.alpha; colour = c; metadata = x; gain = g })

-- 15 where the sheet is above 12,288 bytes, before all else
unfoldable pub sheet : Reader Panel
sheet s = cond (ltb 12288 (length s)) (stop 15) (fields s)
