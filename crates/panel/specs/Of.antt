-- The panel that the code's struct stands for.
use Rattle.std.specs.Prelude.{option_map, option_copied}
use Rattle.panel.specs.Panel.{Tiles, Colour, Metadata, Gain, Panel}
use Rattle.panel.specs.declared.Tiles.{Tiles as LentTiles}
use Rattle.panel.specs.declared.color.ColorMetadata.{ColorMetadata}
use Rattle.panel.specs.declared.metadata.Metadata.{Metadata as LentMetadata}
use Rattle.panel.specs.declared.gain_map.EncodedGainMap.{EncodedGainMap}
use Rattle.panel.specs.declared.Panel.{Panel as LentPanel}

abbrev pub tiles_of : LentTiles → Tiles
tiles_of t = record { hvcc = t.hvcc.now; lengths = t.samples.lengths.now; bytes = t.samples.bytes.now }

abbrev pub colour_of : ColorMetadata → Colour
colour_of c = record { cicp = c.cicp; icc = option_copied c.icc }

abbrev pub metadata_of : LentMetadata → Metadata
metadata_of m = record { orientation = m.orientation; light = m.content_light_level; exif = option_copied m.exif }

abbrev pub gain_of : EncodedGainMap → Gain
gain_of g =
    record {
      hvcc = g.hvcc.now;
      sample = g.sample.now;
      width = g.width;
      height = g.height;
      depth = g.bit_depth;
      cicp = g.cicp;
      xmp = g.xmp.now;
      tone = option_copied g.tmap;
      alternate = option_map colour_of g.alternate_color;
    }

unfoldable pub panel_of : LentPanel → Panel
panel_of p =
    record {
      dims = p.dims;
      visible = p.visible;
      depth = p.bit_depth;
      alpha_depth = p.alpha_bit_depth;
      tiles = tiles_of p.color;
      alpha = tiles_of p.alpha;
      colour = colour_of p.color_meta;
      metadata = metadata_of p.metadata;
      gain = option_map gain_of p.gain_map;
    }
