-- The length of ftyp.
use mathlib.Core.Path.{◌≡◌, refl}
use mathlib.Core.Bool.{Bool, true, false}
use native.Mathlib.Omega.{arith}
use lib.ListN.{length, length-append}
use Rattle.panel.specs.Panel.{Panel}
use Rattle.heif.specs.Items.{shape}
use Rattle.heif.specs.Hvcc.{rext}
use Rattle.heif.specs.Ftyp.{brand, gain_rext, ftyp, head, ftyp_size, head_size}
use Rattle.heif.proofs.Items.{length-given}

length-ftyp : (colour gain tone : Bool) → length (ftyp colour gain tone).body ≡ ftyp_size colour gain tone
length-ftyp colour gain tone = simp (length-append, length-given) (omega (arith, four colour))
  where
    four : (b : Bool) → length (brand b) ≡ 4
    four true = refl
    four false = refl

pub length-head : (p : Panel) → length (head p).body ≡ head_size p
length-head p = length-ftyp (rext p.tiles.hvcc) (gain_rext p.gain) (shape p).tone
