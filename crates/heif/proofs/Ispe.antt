-- ispe tells the size.
use mathlib.Core.Path.{◌≡◌, refl}
use mathlib.Core.List.{[]}
use Prim.Native.Nat.{ℕ, ◌^◌, ◌<◌}
use Rattle.octets.specs.Numbers.{be}
use Rattle.octets.proofs.Lists.{cancel}
use Rattle.octets.proofs.Numbers.{cancel_be}
use Rattle.heif.specs.Ispe.{ispe}

pub ispe_inj : {w h v k : ℕ} → w < 2 ^ 32 → h < 2 ^ 32 → v < 2 ^ 32 → k < 2 ^ 32 → (ispe w h).body ≡ (ispe v k).body → (w ≡ v) × (h ≡ k)
ispe_inj hw hh hv hk e =
    let x = cancel_be 4 hw hv (cancel (be 4 0) (be 4 0) refl e).1 in
    let y = cancel_be 4 {x = []} {y = []} hh hk x.1 in
    (x.0, y.0)
