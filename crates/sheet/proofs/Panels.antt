-- A panel by its sections, as what is read of a sheet is one.
use mathlib.Core.Path.{◌≡◌, refl}
use Rattle.std.specs.Prelude.{option_map}
use Rattle.panel.specs.Of.{tiles_of, colour_of, metadata_of, gain_of, panel_of}
use Rattle.panel.specs.declared.Panel.{Panel}

-- its sections together
pub sections : (p : Panel) → record {
  dims = p.dims;
  visible = p.visible;
  depth = p.bit_depth;
  alpha_depth = p.alpha_bit_depth;
  tiles = tiles_of p.color;
  alpha = tiles_of p.alpha;
  colour = colour_of p.color_meta;
  metadata = metadata_of p.metadata;
  gain = option_map gain_of p.gain_map;
} ≡ panel_of p
unfolding panel_of
sections p = refl
