-- When two panels agree: every field is the same after the two agreements. Nothing here speaks of the file.
use Rattle.std.specs.Prelude.{◌≡◌, List, ℕ, Option, None, Some}
use Rattle.panel.specs.Panel.{Colour, Gain, Panel}
use Rattle.panel.specs.Types.{unspecified}
use Rattle.panel.specs.declared.color.Cicp.{Cicp}

-- unstated colour is read as unspecified full-range
abbrev pub stated : Option Cicp → Option (List ℕ) → Colour
stated (Some c) icc = record { cicp = Some c; icc = icc }
stated None (Some i) = record { cicp = None; icc = Some i }
stated None None = record { cicp = Some unspecified; icc = None }

-- an empty alternate colour is read as none
abbrev pub filled : Option Cicp → Option (List ℕ) → Option Colour
filled (Some c) icc = Some (record { cicp = Some c; icc = icc })
filled None (Some i) = Some (record { cicp = None; icc = Some i })
filled None None = None

-- and so is one that has no tone map
abbrev pub shown : Option (List ℕ) → Option Colour → Option Colour
shown None alternate = None
shown (Some t) None = None
shown (Some t) (Some a) = filled a.cicp a.icc

abbrev pub norm_gain : Option Gain → Option Gain
norm_gain None = None
norm_gain (Some g) =
    Some (record {
      hvcc = g.hvcc;
      sample = g.sample;
      width = g.width;
      height = g.height;
      depth = g.depth;
      cicp = g.cicp;
      xmp = g.xmp;
      tone = g.tone;
      alternate = shown g.tone g.alternate;
    })

unfoldable pub norm : Panel → Panel
norm p =
    record {
      dims = p.dims;
      visible = p.visible;
      depth = p.depth;
      alpha_depth = p.alpha_depth;
      tiles = p.tiles;
      alpha = p.alpha;
      colour = stated p.colour.cicp p.colour.icc;
      metadata = record {
        orientation = p.metadata.orientation;
        light = p.metadata.light;
        exif = p.metadata.exif;
      };
      gain = norm_gain p.gain;
    }

-- two panels agree if their normal forms are equal
pub record Agree (p q : Panel) : Type 0 where
  pub same : norm p ≡ norm q
