-- The length of iprp.
use mathlib.Core.Path.{◌≡◌}
use mathlib.Core.List.{[], ◌∷◌}
use native.Mathlib.Omega.{arith}
use lib.ListN.{length}
use Rattle.octets.proofs.Boxes.{length-sizes}
use Rattle.panel.specs.Panel.{Panel}
use Rattle.panel.specs.Form.{Form}
use Rattle.heif.specs.Items.{shape}
use Rattle.heif.specs.Ipco.{slots, ipco}
use Rattle.heif.specs.Ipma.{positions, associations, ipma}
use Rattle.heif.specs.Iprp.{iprp, iprp_size}
use Rattle.heif.proofs.Ipco.{length-ipco}
use Rattle.heif.proofs.Ipma.{length-ipma}

pub length-iprp : (f : Form) (p : Panel) → length (iprp f p).body ≡ iprp_size f p
length-iprp f p =
    omega (arith, length-sizes (ipco p ∷ ipma f (associations (shape p) (positions 1 (slots p))) ∷ []), length-ipco p, length-ipma f p)
