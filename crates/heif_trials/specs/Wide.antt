-- Trials of the wide form.
use Rattle.std.specs.Prelude.{List, [], ◌∷◌, map}
use Rattle.octets.specs.Numbers.{◌‖◌, be, text}
use Rattle.panel.specs.Form.{wide}
use Rattle.heif_trials.specs.Panels.{panel_p, panel_p_rows, panel_p_exif, panel_p_tone, panel_p_sized}
use Rattle.heif_trials.specs.Trials.{box_at, bytes_at, item, payload, associated, Trial, fits, refuses, ◌in_form◌}

-- P: its boxes, the versions of the six and their ids
abbrev pub p : Trial
p =
    fits panel_p 598
    (box_at "ftyp" 0 28
    ∷ box_at "meta" 28 560
    ∷ box_at "hdlr" 40 33
    ∷ box_at "pitm" 73 16
    ∷ bytes_at 81 (be 4 0x01000000 ‖ be 4 2)
    ∷ box_at "iloc" 89 90
    ∷ bytes_at 97 (be 4 0x02000000 ‖ be 2 0x4400 ‖ be 4 4)
    -- the second entry, whose payload is in idat, and the third
    ∷ bytes_at 125 (be 4 2 ‖ be 2 1 ‖ be 2 0 ‖ be 2 1 ‖ be 4 0 ‖ be 4 8)
    ∷ bytes_at 143 (be 4 3 ‖ be 2 0 ‖ be 2 0 ‖ be 2 1 ‖ be 4 597 ‖ be 4 1)
    ∷ box_at "iinf" 179 108
    ∷ bytes_at 187 (be 4 0x01000000 ‖ be 4 4)
    ∷ box_at "infe" 195 23
    ∷ bytes_at 203 (be 4 0x03000001 ‖ be 4 1 ‖ be 2 0 ‖ text "hvc1" ‖ be 1 0)
    ∷ box_at "iref" 287 66
    ∷ bytes_at 295 (be 4 0x01000000)
    ∷ box_at "dimg" 299 18
    ∷ bytes_at 307 (be 4 2 ‖ be 2 1 ‖ be 4 1)
    ∷ box_at "iprp" 353 211
    ∷ box_at "ipco" 361 156
    ∷ box_at "ipma" 517 47
    ∷ bytes_at 525 (be 4 0x01000000 ‖ be 4 4 ‖ be 4 1 ‖ be 1 3 ‖ be 1 0x81 ‖ be 1 0x82 ‖ be 1 0x84 ‖ be 4 2)
    ∷ box_at "idat" 564 24
    ∷ box_at "mdat" 588 10
    ∷ bytes_at 596 (0xAA ∷ [])
    ∷ bytes_at 597 (0xBB ∷ [])
    ∷ [])

-- 5 and 6 judge the wide file: P's room in the ordinary form, and a byte less than it takes
abbrev pub room_of_the_ordinary : Trial
room_of_the_ordinary = refuses panel_p 556 6

abbrev pub a_byte_less : Trial
a_byte_less = refuses panel_p 597 6

-- two bytes more for each of 2,059 ids and 2 counts
abbrev pub rows : Trial
rows = fits (panel_p_rows 256) 27883 (box_at "idat" 27339 24 ∷ box_at "mdat" 27363 520 ∷ [])

abbrev pub exif : Trial
exif = fits (panel_p_exif []) 661 (item 5 "Exif" ∷ payload 5 (0x00 ∷ 0x00 ∷ 0x00 ∷ 0x00 ∷ []) ∷ [])

-- the ids of a group have 32 bits in the ordinary form too
abbrev pub tone : Trial
tone =
    fits panel_p_tone 1005
    (item 5 "hvc1"
    ∷ item 6 "mime"
    ∷ item 7 "tmap"
    ∷ box_at "altr" 943 28
    ∷ bytes_at 955 (be 4 8 ‖ be 4 2 ‖ be 4 7 ‖ be 4 2)
    ∷ associated 7 (0x0E ∷ 0x0F ∷ [])
    ∷ [])

-- the checks before 4 are those of every form
abbrev pub uncovered : Trial
uncovered = refuses (panel_p_sized 64 64 65 64) 4294967295 8

abbrev pub wide_trials : List Trial
wide_trials = map (λ t. t in_form wide) (p ∷ room_of_the_ordinary ∷ a_byte_less ∷ rows ∷ exif ∷ tone ∷ uncovered ∷ [])
