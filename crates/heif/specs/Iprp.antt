-- 23008-12, 9.3.1: item properties box.
use Rattle.std.specs.Prelude.{[], ◌∷◌, ℕ, ◌+◌}
use Rattle.octets.specs.Boxes.{Box, box, boxes}
use Rattle.panel.specs.Panel.{Panel}
use Rattle.panel.specs.Form.{Form}
use Rattle.heif.specs.Items.{shape}
use Rattle.heif.specs.Ipco.{slots, ipco, ipco_size}
use Rattle.heif.specs.Ipma.{positions, associations, ipma, ipma_size}

abbrev pub iprp : Form → Panel → Box
iprp f p = box "iprp" (boxes (ipco p ∷ ipma f (associations (shape p) (positions 1 (slots p))) ∷ []))

-- ---- how many bytes its body has

abbrev pub iprp_size : Form → Panel → ℕ
iprp_size f p = (8 + ipco_size p) + (8 + ipma_size f p)
