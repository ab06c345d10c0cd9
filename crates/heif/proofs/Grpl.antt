-- The length of grpl.
use mathlib.Core.Path.{◌≡◌}
use mathlib.Core.List.{[], ◌∷◌}
use native.Mathlib.Omega.{arith}
use lib.ListN.{length}
use Rattle.octets.specs.Boxes.{box, boxes}
use Rattle.octets.proofs.Boxes.{length-sizes}
use Rattle.panel.specs.declared.Shape.{Shape}
use Rattle.heif.specs.Items.{colour_grid, tone_id}
use Rattle.heif.specs.Grpl.{altr, grpl, grpl_size}
use Rattle.heif.proofs.Items.{boxes-given}

pub length-boxes-grpl : (s : Shape) → length (boxes (grpl s)) ≡ grpl_size s
length-boxes-grpl s =
    let group = altr (tone_id s) (colour_grid s) ∷ [] in
    boxes-given s.tone (box "grpl" (boxes group) ∷ []) (omega (arith, length-sizes group))
