-- Trials of panels with a visible size.
use Rattle.std.specs.Prelude.{List, [], ◌∷◌}
use Rattle.heif_trials.specs.Panels.{panel_p, panel_p_light, panel_p_sized, panel_p_tone, on_grid, seen_as}
use Rattle.heif_trials.specs.Trials.{box_at, bytes_at, property, associated, Trial, fits, refuses}

-- P with a tile of 64 × 66, of which 63 × 61 are visible: clap is the ninth property, and each tile's last association. A column and five
-- rows less are -1 over 2 and -5 over 2
abbrev pub odd_tile : Trial
odd_tile =
    fits (seen_as 63 61 (panel_p_sized 64 66 63 61)) 598
    (box_at "ipco" 327 196
    ∷ box_at "ipma" 523 41
    ∷ box_at "idat" 564 24
    ∷ property 2 "ispe" (0x00 ∷ 0x00 ∷ 0x00 ∷ 0x00 ∷ 0x00 ∷ 0x00 ∷ 0x00 ∷ 0x40 ∷ 0x00 ∷ 0x00 ∷ 0x00 ∷ 0x42 ∷ [])
    ∷ box_at "clap" 483 40
    ∷ bytes_at 491 (0x00 ∷ 0x00 ∷ 0x00 ∷ 0x3F ∷ 0x00 ∷ 0x00 ∷ 0x00 ∷ 0x01 ∷ 0x00 ∷ 0x00 ∷ 0x00 ∷ 0x3D ∷ 0x00 ∷ 0x00 ∷ 0x00 ∷ 0x01 ∷ [])
    ∷ bytes_at 507 (0xFF ∷ 0xFF ∷ 0xFF ∷ 0xFF ∷ 0x00 ∷ 0x00 ∷ 0x00 ∷ 0x02 ∷ 0xFF ∷ 0xFF ∷ 0xFF ∷ 0xFB ∷ 0x00 ∷ 0x00 ∷ 0x00 ∷ 0x02 ∷ [])
    ∷ associated 1 (0x81 ∷ 0x82 ∷ 0x84 ∷ 0x89 ∷ [])
    ∷ associated 2 (0x03 ∷ 0x84 ∷ 0x05 ∷ [])
    ∷ associated 3 (0x86 ∷ 0x82 ∷ 0x89 ∷ [])
    ∷ associated 4 (0x03 ∷ 0x07 ∷ 0x08 ∷ [])
    ∷ [])

-- all of it: the offsets are 0
abbrev pub whole_tile : Trial
whole_tile =
    fits (seen_as 64 64 panel_p) 598
    (bytes_at 507 (0x00 ∷ 0x00 ∷ 0x00 ∷ 0x00 ∷ 0x00 ∷ 0x00 ∷ 0x00 ∷ 0x02 ∷ 0x00 ∷ 0x00 ∷ 0x00 ∷ 0x00 ∷ 0x00 ∷ 0x00 ∷ 0x00 ∷ 0x02 ∷ []) ∷ [])

-- one pixel of the largest tile that there can be
abbrev pub one_pixel : Trial
one_pixel =
    fits (seen_as 1 1 (panel_p_sized 2147483647 2147483647 1 1)) 598
    (bytes_at 507 (0x80 ∷ 0x00 ∷ 0x00 ∷ 0x02 ∷ 0x00 ∷ 0x00 ∷ 0x00 ∷ 0x02 ∷ 0x80 ∷ 0x00 ∷ 0x00 ∷ 0x02 ∷ 0x00 ∷ 0x00 ∷ 0x00 ∷ 0x02 ∷ []) ∷ [])

-- behind clli, and before the gain map's
abbrev pub behind_light : Trial
behind_light = fits (seen_as 64 64 panel_p_light) 611 (property 9 "clli" (0x03 ∷ 0xE8 ∷ 0x01 ∷ 0x90 ∷ []) ∷ associated 1 (0x81 ∷ 0x82 ∷ 0x84 ∷ 0x8A ∷ []) ∷ [])

abbrev pub before_gain : Trial
before_gain =
    fits (seen_as 64 64 panel_p_tone) 975
    (property 10 "hvcC" []
    ∷ associated 3 (0x86 ∷ 0x82 ∷ 0x89 ∷ [])
    ∷ associated 5 (0x8A ∷ 0x0B ∷ 0x0C ∷ 0x0D ∷ 0x0E ∷ [])
    ∷ associated 7 (0x0F ∷ 0x10 ∷ [])
    ∷ [])

-- ---- refused with 22

abbrev pub nothing_wide : Trial
nothing_wide = refuses (seen_as 0 64 panel_p) 4294967295 22

abbrev pub nothing_high : Trial
nothing_high = refuses (seen_as 64 0 panel_p) 4294967295 22

abbrev pub too_wide : Trial
too_wide = refuses (seen_as 65 64 panel_p) 4294967295 22

abbrev pub too_high : Trial
too_high = refuses (seen_as 64 65 panel_p) 4294967295 22

abbrev pub far_too_wide : Trial
far_too_wide = refuses (seen_as 64 64 (panel_p_sized 2147483648 64 64 64)) 4294967295 22

abbrev pub far_too_high : Trial
far_too_high = refuses (seen_as 64 64 (panel_p_sized 64 2147483648 64 64)) 4294967295 22

-- nothing decoded
abbrev pub no_tile : Trial
no_tile = refuses (seen_as 0 0 (panel_p_sized 0 0 64 64)) 4294967295 22

-- ---- cover is judged by what is seen, and a full size of 0 is 8

abbrev pub column_unseen : Trial
column_unseen = refuses (seen_as 63 64 panel_p) 4294967295 8

abbrev pub row_unseen : Trial
row_unseen = refuses (seen_as 64 63 panel_p) 4294967295 8

abbrev pub nothing_to_cover : Trial
nothing_to_cover = refuses (seen_as 63 61 (panel_p_sized 64 64 0 61)) 4294967295 8

-- ---- 1 comes before 22, 22 before 8 and before 2

abbrev pub no_columns_seen : Trial
no_columns_seen = refuses (seen_as 0 64 (on_grid (record { cols = 0; rows = 1; tile_w = 64; tile_h = 64; full_w = 64; full_h = 64 }) panel_p)) 4294967295 1

abbrev pub unseen_wider : Trial
unseen_wider = refuses (seen_as 0 64 (panel_p_sized 64 64 65 64)) 4294967295 22

abbrev pub two_rows_unseen : Trial
two_rows_unseen = refuses (seen_as 0 64 (on_grid (record { cols = 1; rows = 2; tile_w = 64; tile_h = 64; full_w = 64; full_h = 64 }) panel_p)) 4294967295 22

abbrev pub visible : List Trial
visible =
    odd_tile
    ∷ whole_tile
    ∷ one_pixel
    ∷ behind_light
    ∷ before_gain
    ∷ nothing_wide
    ∷ nothing_high
    ∷ too_wide
    ∷ too_high
    ∷ far_too_wide
    ∷ far_too_high
    ∷ no_tile
    ∷ column_unseen
    ∷ row_unseen
    ∷ nothing_to_cover
    ∷ no_columns_seen
    ∷ unseen_wider
    ∷ two_rows_unseen
    ∷ []
