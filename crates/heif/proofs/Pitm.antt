-- The length of pitm.
use mathlib.Core.Path.{◌≡◌}
use native.Mathlib.Omega.{arith}
use lib.ListN.{length}
use Rattle.octets.proofs.Numbers.{length-be}
use Rattle.panel.specs.Form.{Form}
use Rattle.panel.specs.declared.Shape.{Shape}
use Rattle.heif.specs.Items.{colour_grid}
use Rattle.heif.specs.Pitm.{pitm, pitm_size}

pub length-pitm : (f : Form) (s : Shape) → length (pitm f s).body ≡ pitm_size f
length-pitm f s = omega (arith, length-be f.id (colour_grid s))
