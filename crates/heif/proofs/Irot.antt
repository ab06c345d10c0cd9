-- The length of irot.
use mathlib.Core.Path.{◌≡◌}
use Prim.Native.Nat.{ℕ, zero, suc}
use lib.ListN.{length}
use Rattle.octets.specs.Boxes.{optional, boxes}
use Rattle.octets.proofs.Boxes.{length_none, length-boxes}
use Rattle.heif.specs.Irot.{irot_payload, irot_size}

pub length-boxes-irot : (k : ℕ) → length (boxes (optional "irot" (irot_payload k))) ≡ irot_size k
length-boxes-irot zero = length_none
length-boxes-irot (suc k) = simp (length-boxes, length_none)
