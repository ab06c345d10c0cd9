-- How many ids stand in a run, and how long a list is that is given only if so; and what is there only beside something else.
use mathlib.Core.Path.{◌≡◌, refl, ap, ◌∙◌}
use mathlib.Core.Bool.{Bool, true, false, cond}
use Rattle.std.specs.Prelude.{Option, None, Some, is_some}
use mathlib.Core.List.{List, []}
use Prim.Native.Nat.{ℕ, zero, suc, ◌+◌, ◌*◌}
use native.Mathlib.Nat.{zero-mul}
use lib.ListN.{length}
use Rattle.octets.specs.Boxes.{Box, boxes}
use Rattle.octets.proofs.Lists.{length-cond}
use Rattle.octets.proofs.Boxes.{length_none, sizes, length-sizes}
use Rattle.panel.specs.Panel.{Gain}
use Rattle.panel.specs.Parts.{given, tone_of}
use Rattle.heif.specs.Items.{ids_from}

pub length-ids_from : (n k : ℕ) → length (ids_from n k) ≡ k
length-ids_from n zero = refl
length-ids_from n (suc k) = ap suc (length-ids_from (suc n) k)

pub length-given : {A : Type 0} (b : Bool) (l : List A) → length (given b l) ≡ cond b (length l) 0
length-given b l = length-cond b l []

length-boxes-given : (b : Bool) (l : List Box) → length (boxes (given b l)) ≡ cond b (length (boxes l)) 0
length-boxes-given true l = refl
length-boxes-given false l = length_none

-- ---- what is there only if so

-- boxes of n bytes
pub boxes-given : (b : Bool) (l : List Box) {n : ℕ} → sizes l ≡ n → length (boxes (given b l)) ≡ cond b n 0
boxes-given b l h = length-boxes-given b l ∙ ap (λ (n : ℕ). cond b n 0) (length-sizes l ∙ h)

pub times_given : (b : Bool) (n k : ℕ) → cond b n 0 * k ≡ cond b (n * k) 0
times_given true n k = refl
times_given false n k = zero-mul k

pub plus_given : (b : Bool) (m n : ℕ) → cond b (m + n) 0 ≡ cond b m 0 + cond b n 0
plus_given true m n = refl
plus_given false m n = refl

-- a tone map comes with a gain map
pub toned : (g : Option Gain) → is_some (tone_of g) ≡ true → is_some g ≡ true
toned None e = e
toned (Some g) e = refl
