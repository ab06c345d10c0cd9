-- Panel P, of one tile and nothing optional, and the panels that differ from it in a field or two.
use Rattle.std.specs.Prelude.{Option, None, Some, List, [], ◌∷◌, ℕ, ◌*◌, replicate}
use Rattle.panel.specs.Panel.{Colour, Metadata, Gain, Panel}
use Rattle.panel.specs.Types.{unspecified}
use Rattle.panel.specs.declared.GridDims.{GridDims}
use Rattle.panel.specs.declared.fmt.BitDepth.{BitDepth}
use Rattle.panel.specs.declared.fmt.BitDepth.TheVariants.{Eight}
use Rattle.panel.specs.declared.metadata.ContentLightLevel.{ContentLightLevel}
use Rattle.panel.specs.declared.metadata.Orientation.{Orientation}
use Rattle.panel.specs.declared.metadata.Orientation.TheVariants.{Normal, Transpose}

-- one column of so many rows, a picture as wide as its tiles, each colour sample the byte c and each alpha sample BB
abbrev pub column : ℕ → ℕ → ℕ → Colour → Metadata → Option Gain → Panel
column rows width c colour metadata gain =
    record {
      dims = record { cols = 1; rows = rows; tile_w = width; tile_h = 64; full_w = width; full_h = 64 };
      visible = None;
      depth = Eight;
      alpha_depth = Eight;
      tiles = record { hvcc = 0x01 ∷ 0x01 ∷ []; lengths = replicate rows 1; bytes = replicate rows c };
      alpha = record { hvcc = 0x01 ∷ 0x04 ∷ []; lengths = replicate rows 1; bytes = replicate rows 0xBB };
      colour = colour;
      metadata = metadata;
      gain = gain;
    }

abbrev pub unstated : Colour
unstated = record { cicp = None; icc = None }

abbrev pub said : Orientation → Option ContentLightLevel → Option (List ℕ) → Metadata
said o l e = record { orientation = o; light = l; exif = e }

abbrev pub plain : Metadata
plain = said Normal None None

abbrev pub panel_p : Panel
panel_p = column 1 64 0xAA unstated plain None

-- P with so many rows, or so wide, its tile too
abbrev pub panel_p_rows : ℕ → Panel
panel_p_rows n = column n 64 0xAA unstated plain None

abbrev pub panel_p_of_width : ℕ → Panel
panel_p_of_width w = column 1 w 0xAA unstated plain None

abbrev pub panel_p_transpose : Panel
panel_p_transpose = column 1 64 0xAA unstated (said Transpose None None) None

abbrev pub panel_p_exif : List ℕ → Panel
panel_p_exif exif = column 1 64 0xAA unstated (said Normal None (Some exif)) None

-- 1,000 at the highest, 400 on average
abbrev pub some_light : Option ContentLightLevel
some_light = Some (record { max_content_light_level = 1000; max_pic_average_light_level = 400 })

abbrev pub panel_p_light : Panel
panel_p_light = column 1 64 0xAA unstated (said Normal some_light None) None

abbrev pub panel_p_tone : Panel
panel_p_tone =
    column 1 64 0xAA unstated plain
    (Some (record {
      hvcc = [];
      sample = [];
      width = 1;
      height = 1;
      depth = Eight;
      cicp = unspecified;
      xmp = [];
      tone = Some [];
      alternate = None;
    }))

-- the panel with another grid
abbrev pub on_grid : GridDims → Panel → Panel
on_grid d p = record { dims = d; visible = p.visible; depth = p.depth; alpha_depth = p.alpha_depth; tiles = p.tiles; alpha = p.alpha; colour = p.colour; metadata = p.metadata; gain = p.gain }

-- a panel of so many columns and rows of tiles, with every part that there can be
abbrev pub full_panel : ℕ → ℕ → Panel
full_panel cols rows =
    let n = rows * cols in
    let both : Colour = record { cicp = Some unspecified; icc = Some (0x11 ∷ []) } in
    record {
      dims = record { cols = cols; rows = rows; tile_w = 64; tile_h = 64; full_w = cols * 63; full_h = rows * 63 };
      visible = Some (record { w = 63; h = 63 });
      depth = Eight;
      alpha_depth = Eight;
      tiles = record { hvcc = 0x01 ∷ 0x01 ∷ []; lengths = replicate n 1; bytes = replicate n 0xAA };
      alpha = record { hvcc = 0x01 ∷ 0x04 ∷ []; lengths = replicate n 1; bytes = replicate n 0xBB };
      colour = both;
      metadata = said Transpose some_light (Some (0x21 ∷ []));
      gain = Some (record {
        hvcc = 0x01 ∷ 0x01 ∷ [];
        sample = 0x31 ∷ [];
        width = 1;
        height = 1;
        depth = Eight;
        cicp = unspecified;
        xmp = 0x41 ∷ [];
        tone = Some (0x51 ∷ []);
        alternate = Some both;
      });
    }

-- P with other sizes, of its tile and of its picture
abbrev pub panel_p_sized : ℕ → ℕ → ℕ → ℕ → Panel
panel_p_sized tile_w tile_h full_w full_h =
    on_grid (record { cols = 1; rows = 1; tile_w = tile_w; tile_h = tile_h; full_w = full_w; full_h = full_h }) panel_p

-- the panel, of whose tiles so much is seen
abbrev pub seen_as : ℕ → ℕ → Panel → Panel
seen_as w h p =
    record {
      dims = p.dims;
      visible = Some (record { w = w; h = h });
      depth = p.depth;
      alpha_depth = p.alpha_depth;
      tiles = p.tiles;
      alpha = p.alpha;
      colour = p.colour;
      metadata = p.metadata;
      gain = p.gain;
    }

-- the panel with other depths, of colour and alpha
abbrev pub at_depths : BitDepth → BitDepth → Panel → Panel
at_depths d a p = record { dims = p.dims; visible = p.visible; depth = d; alpha_depth = a; tiles = p.tiles; alpha = p.alpha; colour = p.colour; metadata = p.metadata; gain = p.gain }

-- P with its colour stated as unspecified full-range
abbrev pub panel_p_stated : Panel
panel_p_stated = column 1 64 0xAA (record { cicp = Some unspecified; icc = None }) plain None

-- P with another byte in its colour sample
abbrev pub panel_p_other : Panel
panel_p_other = column 1 64 0xAC unstated plain None
