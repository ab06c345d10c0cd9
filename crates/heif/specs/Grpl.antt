-- 23008-12, 9.4: groups list box.
use Rattle.std.specs.Prelude.{cond, List, [], ◌∷◌, ℕ, ◌+◌}
use Rattle.octets.specs.Numbers.{◌‖◌, be}
use Rattle.octets.specs.Boxes.{Box, box, full, boxes}
use Rattle.panel.specs.Parts.{given}
use Rattle.panel.specs.declared.Shape.{Shape}
use Rattle.heif.specs.Items.{colour_grid, tone_id}

-- the tone map or else the colour grid is shown; the group's id is the first that no item has. All ids have 32 bits
abbrev pub altr : ℕ → ℕ → Box
altr tone grid = full "altr" 0 0 (be 4 (tone + 1) ‖ be 4 2 ‖ be 4 tone ‖ be 4 grid)

abbrev pub grpl : Shape → List Box
grpl s = given s.tone (box "grpl" (boxes (altr (tone_id s) (colour_grid s) ∷ [])) ∷ [])

-- ---- how many bytes they have, as whole boxes; grpl is there with a tone map

abbrev pub altr_size : ℕ
altr_size = 28

abbrev pub grpl_size : Shape → ℕ
grpl_size s = cond s.tone (8 + altr_size) 0
