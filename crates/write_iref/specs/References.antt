-- A reference whose type is given as bytes, and the ids that it holds.
use Rattle.std.specs.Prelude.{ℕ, length}
use mathlib.Core.List.{List, map, flat_map}
use Rattle.octets.specs.Numbers.{◌‖◌, be}
use Rattle.octets.specs.Boxes.{Box, box_of}
use Rattle.panel.specs.Form.{Form}
use Rattle.panel.specs.declared.WideItemId.{WideItemId}

abbrev pub numbers : List WideItemId → List ℕ
numbers ids = map (λ id. id.0) ids

abbrev pub reference_of : Form → List ℕ → ℕ → List ℕ → Box
reference_of f kind from to = box_of kind (be f.id from ‖ be 2 (length to) ‖ flat_map (be f.id) to)
