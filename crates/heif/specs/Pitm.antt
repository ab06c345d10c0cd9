-- 14496-12, 8.11.4: primary item box.
use Rattle.std.specs.Prelude.{ℕ, ◌+◌}
use Rattle.octets.specs.Numbers.{be}
use Rattle.octets.specs.Boxes.{Box, full}
use Rattle.panel.specs.Form.{Form}
use Rattle.panel.specs.declared.Shape.{Shape}
use Rattle.heif.specs.Items.{colour_grid}

-- the colour grid. In version 0 its id has 16 bits, in version 1 it has 32
abbrev pub pitm : Form → Shape → Box
pitm f s = full "pitm" f.step 0 (be f.id (colour_grid s))

-- ---- how many bytes its body has

abbrev pub pitm_size : Form → ℕ
pitm_size f = 4 + f.id
