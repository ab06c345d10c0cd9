-- pixi tells the depth.
use mathlib.Core.Path.{◌≡◌, ap}
use mathlib.Core.List.{List}
use Prim.Native.Nat.{ℕ, suc}
use lib.ListN.{get_or}
use Rattle.panel.specs.Types.{bits}
use Rattle.panel.specs.declared.fmt.BitDepth.{BitDepth}
use Rattle.panel.proofs.Codes.{bits_inj}
use Rattle.heif.specs.Pixi.{pixi}

-- of one channel or more: version, flags and count take five bytes
pub pixi_inj : (k : ℕ) (a b : BitDepth) → (pixi (suc k) (bits a)).body ≡ (pixi (suc k) (bits b)).body → a ≡ b
pixi_inj k a b e = bits_inj a b (ap (λ (l : List ℕ). get_or l 5 0) e)
