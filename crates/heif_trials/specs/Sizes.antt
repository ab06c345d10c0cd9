-- Trials of sizes that the tiles cover or not.
use Rattle.std.specs.Prelude.{List, [], ◌∷◌}
use Rattle.heif_trials.specs.Panels.{panel_p, panel_p_rows, panel_p_sized, on_grid}
use Rattle.heif_trials.specs.Trials.{box_at, bytes_at, Trial, fits, refuses}

-- P, its picture one narrower than its tile; one wider; one higher
abbrev pub narrower : Trial
narrower = fits (panel_p_sized 64 64 63 64) 556 (bytes_at 530 (0x00 ∷ 0x00 ∷ 0x00 ∷ 0x00 ∷ 0x00 ∷ 0x3F ∷ 0x00 ∷ 0x40 ∷ []) ∷ [])

abbrev pub wider : Trial
wider = refuses (panel_p_sized 64 64 65 64) 4294967295 8

abbrev pub higher : Trial
higher = refuses (panel_p_sized 64 64 64 65) 4294967295 8

-- P, each size 0
abbrev pub no_tile_w : Trial
no_tile_w = refuses (panel_p_sized 0 64 64 64) 4294967295 8

abbrev pub no_tile_h : Trial
no_tile_h = refuses (panel_p_sized 64 0 64 64) 4294967295 8

abbrev pub no_full_w : Trial
no_full_w = refuses (panel_p_sized 64 64 0 64) 4294967295 8

abbrev pub no_full_h : Trial
no_full_h = refuses (panel_p_sized 64 64 64 0) 4294967295 8

-- two rows that reach 4,294,967,296, and a picture of one less
abbrev pub highest : Trial
highest =
    fits (on_grid (record { cols = 1; rows = 2; tile_w = 64; tile_h = 2147483648; full_w = 64; full_h = 4294967295 }) (panel_p_rows 2)) 655
    (box_at "idat" 611 32 ∷ bytes_at 619 (0x00 ∷ 0x02 ∷ 0x01 ∷ 0x00 ∷ 0x00 ∷ 0x00 ∷ 0x00 ∷ 0x40 ∷ 0xFF ∷ 0xFF ∷ 0xFF ∷ 0xFF ∷ []) ∷ [])

-- 1 comes before 8, and 8 before 2
abbrev pub no_columns_wider : Trial
no_columns_wider = refuses (on_grid (record { cols = 0; rows = 1; tile_w = 64; tile_h = 64; full_w = 65; full_h = 64 }) panel_p) 4294967295 1

abbrev pub two_rows_wider : Trial
two_rows_wider = refuses (on_grid (record { cols = 1; rows = 2; tile_w = 64; tile_h = 64; full_w = 65; full_h = 64 }) panel_p) 4294967295 8

abbrev pub sizes : List Trial
sizes = narrower ∷ wider ∷ higher ∷ no_tile_w ∷ no_tile_h ∷ no_full_w ∷ no_full_h ∷ highest ∷ no_columns_wider ∷ two_rows_wider ∷ []
