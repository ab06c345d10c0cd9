-- The panel that a caller's codes and byte parts stand for, or none where a code that is looked at stands for nothing: those of depths,
-- orientation and colour, and the bytes that say yes or no. The codes of an absent part are not looked at; those of an alternate colour that
-- is there are, with a tone map or without.
use Rattle.std.specs.Prelude.{◌≡◌, Bool, true, false, cond, List, ℕ, Option, None, Some, option_map, Result, MatchResult}
use Rattle.panel.specs.Panel.{Colour, Metadata, Gain, Panel}
use Rattle.panel.specs.declared.color.Cicp.{Cicp}
use Rattle.panel_codes.specs.Codes.{◌and_then◌, depth_named, orientation_named, yes_no, cicp_named}
use Rattle.panel_codes.specs.declared.UnknownCode.{UnknownCode}
use Rattle.c_types.specs.Lent.{Lent}
use Rattle.c_types.specs.Plain.{dims_value, visible_value, light_value}
use Rattle.c_types.specs.declared.CicpCodes.{CicpCodes}
use Rattle.c_types.specs.declared.ColorCodes.{ColorCodes}
use Rattle.c_types.specs.declared.GainCodes.{GainCodes}
use Rattle.c_types.specs.declared.PanelCodes.{PanelCodes}

-- a part that is there or not: what stands for nothing does so only if it is there
abbrev pub part_if : {A : Type 0} → Bool → Option A → Option (Option A)
part_if true o = option_map Some o
part_if false o = Some None

-- bytes that are there or not
abbrev pub bytes_if : Bool → List ℕ → Option (List ℕ)
bytes_if b x = cond b (Some x) None

abbrev pub cicp_from : CicpCodes → Option Cicp
cicp_from c = cicp_named c.primaries c.transfer c.matrix c.full_range

unfoldable pub colour_from : ColorCodes → List ℕ → Option Colour
colour_from c icc =
    yes_no c.has_cicp and_then λ has_cicp.
    yes_no c.has_icc and_then λ has_icc.
    part_if has_cicp (cicp_from c.cicp) and_then λ cicp.
    Some (record { cicp = cicp; icc = bytes_if has_icc icc })

unfoldable pub metadata_from : PanelCodes → List ℕ → Option Metadata
metadata_from c exif =
    orientation_named c.orientation and_then λ orientation.
    yes_no c.has_light and_then λ has_light.
    yes_no c.has_exif and_then λ has_exif.
    Some (record { orientation = orientation; light = cond has_light (Some (light_value c)) None; exif = bytes_if has_exif exif })

unfoldable pub gain_from : GainCodes → Lent → Option Gain
gain_from g l =
    depth_named g.bit_depth and_then λ depth.
    yes_no g.has_tmap and_then λ has_tmap.
    yes_no g.has_alternate and_then λ has_alternate.
    cicp_from g.cicp and_then λ cicp.
    part_if has_alternate (colour_from g.alternate l.alternate_icc) and_then λ alternate.
    Some (record {
      hvcc = l.gain_hvcc;
      sample = l.gain_sample;
      width = g.width;
      height = g.height;
      depth = depth;
      cicp = cicp;
      xmp = l.gain_xmp;
      tone = bytes_if has_tmap l.gain_tmap;
      alternate = alternate;
    })

unfoldable pub panel_from : PanelCodes → Lent → Option Panel
panel_from c l =
    depth_named c.bit_depth and_then λ depth.
    depth_named c.alpha_bit_depth and_then λ alpha_depth.
    yes_no c.has_visible and_then λ has_visible.
    metadata_from c l.exif and_then λ metadata.
    colour_from c.color l.icc and_then λ colour.
    yes_no c.has_gain and_then λ has_gain.
    part_if has_gain (gain_from c.gain l) and_then λ gain.
    Some (record {
      dims = dims_value c;
      visible = cond has_visible (Some (visible_value c)) None;
      depth = depth;
      alpha_depth = alpha_depth;
      tiles = l.tiles;
      alpha = l.alpha;
      colour = colour;
      metadata = metadata;
      gain = gain;
    })

-- what is looked up, where `of` gives what the code's value stands for
abbrev pub Stands : {A B : Type 0} → (B → A) → Option A → Result B UnknownCode → Type 0
Stands of o r = MatchResult r (λ b. o ≡ Some (of b)) (λ e. o ≡ None)
