-- The theorem on the length as a sum is not empty: a list of a panel's extras, the same in another order, and lists that are none.
use mathlib.Core.Path.{◌≡◌, refl}
use Rattle.std.specs.Prelude.{None, Some}
use mathlib.Core.List.{[], ◌∷◌, flatten, flat_map}
use Prim.Native.Nat.{ℕ, ◌+◌}
use native.Mathlib.Decide.{ℕ_discrete}
use native.Mathlib.Omega.{arith}
use lib.ListN.{length}
use Rattle.std.proofs.lemmas.List.Sorted.{IsPermutation-reverse}
use Rattle.octets.specs.Boxes.{boxes}
use Rattle.panel.specs.Panel.{Panel}
use Rattle.panel.specs.Form.{ordinary}
use Rattle.panel.specs.declared.metadata.Orientation.TheVariants.{Normal}
use Rattle.heif.specs.File.{file}
use Rattle.heif.specs.Refusal.{refusal}
use Rattle.heif_length.specs.Extras.{light_level, exif, ◌lists◌}
use Rattle.heif_length.proofs.Extras.{extras_listed, reordered}
use Rattle.heif_length.proofs.Shares.{accepted-length_as_sum}
use Rattle.heif_trials.specs.Panels.{column, unstated, said, some_light}

-- P with a light level and three bytes of Exif
abbrev pub two_extras : Panel
two_extras = column 1 64 0xAA unstated (said Normal some_light (Some (1 ∷ 2 ∷ 3 ∷ []))) None

pub listed : (light_level ∷ exif 3 ∷ []) lists two_extras
listed = extras_listed two_extras

pub listed_the_other_way : (exif 3 ∷ light_level ∷ []) lists two_extras
listed_the_other_way = reordered two_extras (light_level ∷ exif 3 ∷ []) (exif 3 ∷ light_level ∷ []) (IsPermutation-reverse (light_level ∷ exif 3 ∷ [])) listed

-- but not without one, nor with one twice, nor with one of another length
pub missing_one : (exif 3 ∷ []) lists two_extras → ⊥
missing_one h = let z : ◌≡◌ {A = ℕ} 0 1 = h light_level in omega arith

pub having_one_twice : (exif 3 ∷ light_level ∷ exif 3 ∷ []) lists two_extras → ⊥
unfolding ℕ_discrete
having_one_twice h = let z : ◌≡◌ {A = ℕ} 2 1 = h (exif 3) in omega arith

pub having_another : (exif 4 ∷ light_level ∷ []) lists two_extras → ⊥
unfolding ℕ_discrete
having_another h = let z : ◌≡◌ {A = ℕ} 1 0 = h (exif 4) in omega arith

-- the theorem speaks of this panel, and gives the length that its file has
two_extras-accepted : refusal ordinary two_extras ≡ 0
unfolding boxes flatten flat_map file refusal
two_extras-accepted = refl

pub summed : length (file ordinary two_extras) ≡ 556 + (55 + 3) + 13
summed = omega (arith, accepted-length_as_sum two_extras (exif 3 ∷ light_level ∷ []) two_extras-accepted listed_the_other_way)

pub counted : length (file ordinary two_extras) ≡ 627
unfolding boxes flatten flat_map file
counted = refl
