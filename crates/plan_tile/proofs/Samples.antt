-- The payload of a tile, as a part of the bytes: from the sum of the lengths before it on, as long as its own length says.
use mathlib.Core.Path.{◌≡◌, refl, ap, ◌∙◌}
use mathlib.Core.List.{List, [], ◌∷◌}
use Prim.Native.Nat.{ℕ, zero, suc, ◌<◌}
use native.Mathlib.Omega.{arith}
use lib.ListN.{length, take, drop, get_or}
use lib.Seq.{drop-drop}
use Rattle.octets.specs.Numbers.{total}
use Rattle.plan_tile.specs.Lookup.{sample}

pub sample-at : (l b : List ℕ) (k : ℕ) → k < length l → sample l b k ≡ take (get_or l k 0) (drop (total (take k l)) b)
sample-at [] b k h = absurd (omega arith)
sample-at (n ∷ l) b zero h = refl
sample-at (n ∷ l) b (suc k) h = sample-at l (drop n b) k (omega arith) ∙ ap (take (get_or l k 0)) (drop-drop (total (take k l)) n b)
