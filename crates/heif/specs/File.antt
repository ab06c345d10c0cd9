-- The file: ftyp, meta with its boxes, mdat.
use Rattle.std.specs.Prelude.{List, [], ◌∷◌, ℕ, ◌+◌, length}
use Rattle.octets.specs.Boxes.{boxes}
use Rattle.panel.specs.Panel.{Panel}
use Rattle.panel.specs.Form.{Form}
use Rattle.heif.specs.Iloc.{locations}
use Rattle.heif.specs.Meta.{meta, meta_size}
use Rattle.heif.specs.Ftyp.{head, head_size}
use Rattle.heif.specs.Mdat.{mdat, mdat_size}

-- where mdat's body begins. An entry of iloc has a fixed size, so the length of meta does not depend on the offsets in it
abbrev pub data_at : Form → Panel → ℕ
data_at f p = length (boxes (head p ∷ meta f (locations 0 p) p ∷ [])) + 8

unfoldable pub file : Form → Panel → List ℕ
file f p = boxes (head p ∷ meta f (locations (data_at f p) p) p ∷ mdat p ∷ [])

-- ---- how many bytes it has

abbrev pub size : Form → Panel → ℕ
size f p = (8 + head_size p) + (8 + meta_size f p) + (8 + mdat_size p)
