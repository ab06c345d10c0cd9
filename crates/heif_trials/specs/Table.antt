-- The lettered trials, (a) to (k), with those of the Exif's marker and of the alpha depth, in one table with those of sizes, of a visible
-- size and of the wide form.
use Rattle.std.specs.Prelude.{List, [], ◌∷◌}
use Rattle.octets.specs.Numbers.{◌‖◌, be, text}
use Rattle.panel.specs.declared.fmt.BitDepth.TheVariants.{Eight, Twelve}
use Rattle.heif_trials.specs.Panels
use Rattle.heif_trials.specs.Trials.{box_at, bytes_at, item, payload, property, associated, Trial, fits, refuses}
use Rattle.heif_trials.specs.Sizes.{sizes}
use Rattle.heif_trials.specs.Visible.{visible}
use Rattle.heif_trials.specs.Wide.{wide_trials}

-- (a) P: the brand, the twelve boxes, and the two samples
abbrev pub a : Trial
a =
    fits Panels.panel_p 556
    (bytes_at 8 (text "heic")
    ∷ box_at "ftyp" 0 28
    ∷ box_at "meta" 28 518
    ∷ box_at "hdlr" 40 33
    ∷ box_at "pitm" 73 14
    ∷ box_at "iloc" 87 80
    ∷ box_at "iinf" 167 98
    ∷ box_at "iref" 265 54
    ∷ box_at "iprp" 319 203
    ∷ box_at "ipco" 327 156
    ∷ box_at "ipma" 483 39
    ∷ box_at "idat" 522 24
    ∷ box_at "mdat" 546 10
    ∷ bytes_at 554 (0xAA ∷ [])
    ∷ bytes_at 555 (0xBB ∷ [])
    ∷ [])

-- (b) P, output 555 bytes
abbrev pub b : Trial
b = refuses Panels.panel_p 555 6

-- (c) P, tile_w and full_w 65,535: both descriptors in 16 bits
abbrev pub c : Trial
c =
    fits (Panels.panel_p_of_width 65535) 556
    (box_at "idat" 522 24
    ∷ bytes_at 530 (0x00 ∷ 0x00 ∷ 0x00 ∷ 0x00 ∷ 0xFF ∷ 0xFF ∷ 0x00 ∷ 0x40 ∷ [])
    ∷ bytes_at 538 (0x00 ∷ 0x00 ∷ 0x00 ∷ 0x00 ∷ 0xFF ∷ 0xFF ∷ 0x00 ∷ 0x40 ∷ [])
    ∷ [])

-- (d) P, tile_w and full_w 65,536: both in 32 bits
abbrev pub d : Trial
d =
    fits (Panels.panel_p_of_width 65536) 564
    (box_at "idat" 522 32
    ∷ bytes_at 530 (0x00 ∷ 0x02 ∷ 0x00 ∷ 0x00 ∷ 0x00 ∷ 0x01 ∷ 0x00 ∷ 0x00 ∷ 0x00 ∷ 0x00 ∷ 0x00 ∷ 0x40 ∷ [])
    ∷ bytes_at 542 (0x00 ∷ 0x02 ∷ 0x00 ∷ 0x00 ∷ 0x00 ∷ 0x01 ∷ 0x00 ∷ 0x00 ∷ 0x00 ∷ 0x00 ∷ 0x00 ∷ 0x40 ∷ [])
    ∷ [])

-- (e) rows 256, columns 1: the row byte FF
abbrev pub e : Trial
e = fits (Panels.panel_p_rows 256) 23761 (box_at "idat" 23217 24 ∷ bytes_at 23225 (0x00 ∷ 0x00 ∷ 0xFF ∷ 0x00 ∷ 0x00 ∷ 0x40 ∷ 0x00 ∷ 0x40 ∷ []) ∷ [])

-- (f) rows 257
abbrev pub f : Trial
f = refuses (Panels.panel_p_rows 257) 4294967295 1

-- (g) P, Transpose
abbrev pub g : Trial
g = fits Panels.panel_p_transpose 578 (property 9 "irot" (0x03 ∷ []) ∷ property 10 "imir" (0x00 ∷ []) ∷ associated 2 (0x03 ∷ 0x84 ∷ 0x05 ∷ 0x89 ∷ 0x8A ∷ []) ∷ [])

-- (h) P, Exif empty
abbrev pub h : Trial
h = fits (Panels.panel_p_exif []) 611 (item 5 "Exif" ∷ payload 5 (0x00 ∷ 0x00 ∷ 0x00 ∷ 0x00 ∷ []) ∷ [])

-- (h) with the marker before a TIFF header, which is six bytes away
abbrev pub h_marked : Trial
h_marked =
    fits (Panels.panel_p_exif (0x45 ∷ 0x78 ∷ 0x69 ∷ 0x66 ∷ 0x00 ∷ 0x00 ∷ 0x4D ∷ 0x4D ∷ 0x00 ∷ 0x2A ∷ [])) 621
    (payload 5 (0x00 ∷ 0x00 ∷ 0x00 ∷ 0x06 ∷ 0x45 ∷ 0x78 ∷ 0x69 ∷ 0x66 ∷ 0x00 ∷ 0x00 ∷ 0x4D ∷ 0x4D ∷ 0x00 ∷ 0x2A ∷ []) ∷ [])

-- with five bytes of the marker, and with a byte before it
abbrev pub h_cut : Trial
h_cut =
    fits (Panels.panel_p_exif (0x45 ∷ 0x78 ∷ 0x69 ∷ 0x66 ∷ 0x00 ∷ [])) 616
    (payload 5 (0x00 ∷ 0x00 ∷ 0x00 ∷ 0x00 ∷ 0x45 ∷ 0x78 ∷ 0x69 ∷ 0x66 ∷ 0x00 ∷ []) ∷ [])

abbrev pub h_late : Trial
h_late =
    fits (Panels.panel_p_exif (0x00 ∷ 0x45 ∷ 0x78 ∷ 0x69 ∷ 0x66 ∷ 0x00 ∷ 0x00 ∷ [])) 618
    (payload 5 (0x00 ∷ 0x00 ∷ 0x00 ∷ 0x00 ∷ 0x00 ∷ 0x45 ∷ 0x78 ∷ 0x69 ∷ 0x66 ∷ 0x00 ∷ 0x00 ∷ []) ∷ [])

-- (i) P, light 1000 and 400
abbrev pub i : Trial
i = fits Panels.panel_p_light 569 (property 9 "clli" (0x03 ∷ 0xE8 ∷ 0x01 ∷ 0x90 ∷ []) ∷ [])

-- (j) P, colr
abbrev pub j : Trial
j = fits Panels.panel_p 556 (property 4 "colr" (0x6E ∷ 0x63 ∷ 0x6C ∷ 0x78 ∷ 0x00 ∷ 0x02 ∷ 0x00 ∷ 0x02 ∷ 0x00 ∷ 0x02 ∷ 0x80 ∷ []) ∷ [])

-- (k) P, gain with tone map: the ids, and the group with the tone map and the colour grid
abbrev pub k : Trial
k =
    fits Panels.panel_p_tone 933
    (item 5 "hvc1"
    ∷ item 6 "mime"
    ∷ item 7 "tmap"
    ∷ box_at "altr" 871 28
    ∷ bytes_at 883 (be 4 8 ‖ be 4 2 ‖ be 4 7 ‖ be 4 2)
    ∷ [])

-- (k) with alpha at a depth of its own: the colour grid's pixi and the tone map's stay with the colour's depth
abbrev pub k_alpha_eight : Trial
k_alpha_eight =
    fits (Panels.at_depths Twelve Eight Panels.panel_p_tone) 933
    (property 5 "pixi" (0x00 ∷ 0x00 ∷ 0x00 ∷ 0x00 ∷ 0x03 ∷ 0x0C ∷ 0x0C ∷ 0x0C ∷ [])
    ∷ property 7 "pixi" (0x00 ∷ 0x00 ∷ 0x00 ∷ 0x00 ∷ 0x01 ∷ 0x08 ∷ [])
    ∷ property 15 "pixi" (0x00 ∷ 0x00 ∷ 0x00 ∷ 0x00 ∷ 0x03 ∷ 0x0C ∷ 0x0C ∷ 0x0C ∷ [])
    ∷ [])

abbrev pub k_alpha_twelve : Trial
k_alpha_twelve =
    fits (Panels.at_depths Eight Twelve Panels.panel_p_tone) 933
    (property 5 "pixi" (0x00 ∷ 0x00 ∷ 0x00 ∷ 0x00 ∷ 0x03 ∷ 0x08 ∷ 0x08 ∷ 0x08 ∷ [])
    ∷ property 7 "pixi" (0x00 ∷ 0x00 ∷ 0x00 ∷ 0x00 ∷ 0x01 ∷ 0x0C ∷ [])
    ∷ property 15 "pixi" (0x00 ∷ 0x00 ∷ 0x00 ∷ 0x00 ∷ 0x03 ∷ 0x0A ∷ 0x0A ∷ 0x0A ∷ [])
    ∷ [])

abbrev pub table : List Trial
table = a ∷ b ∷ c ∷ d ∷ e ∷ f ∷ g ∷ h ∷ h_marked ∷ h_cut ∷ h_late ∷ i ∷ j ∷ k ∷ k_alpha_eight ∷ k_alpha_twelve ∷ sizes ‖ visible ‖ wide_trials
