-- 23008-12, 6.5: image spatial extents property.
use Rattle.std.specs.Prelude.{cond, ℕ, ◌%◌, eqb}
use Rattle.octets.specs.Numbers.{◌‖◌, be}
use Rattle.octets.specs.Boxes.{Box, full}
use Rattle.panel.specs.Types.{irot_steps}
use Rattle.panel.specs.declared.GridDims.{GridDims}
use Rattle.panel.specs.declared.metadata.Orientation.{Orientation}

-- width and height
abbrev pub ispe : ℕ → ℕ → Box
ispe w h = full "ispe" 0 0 (be 4 w ‖ be 4 h)

-- the tone map's picture is as large as the turned grid
abbrev pub tone_ispe : GridDims → Orientation → Box
tone_ispe d o = let odd = eqb (irot_steps o % 2) 1 in ispe (cond odd d.full_h d.full_w) (cond odd d.full_w d.full_h)

-- ---- how many bytes it has, as a whole box

abbrev pub ispe_size : ℕ
ispe_size = 20
