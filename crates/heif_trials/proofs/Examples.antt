-- The theorem on equal files is not empty: panels that it speaks of, a pair that agrees without being equal, and pairs with other bytes.
-- Nor is that on the clean aperture: what another clap would show.
use Rattle.std.specs.Prelude.{option_to_list, pos}
use mathlib.Core.Path.{◌≡◌, refl, ap}
use mathlib.Core.List.{List, ◌∷◌, flatten, flat_map}
use Prim.Native.Nat.{ℕ}
use native.Mathlib.Omega.{arith}
use lib.ListN.{length, get_or, take, drop}
use Rattle.octets.specs.Numbers.{◌‖◌, be}
use Rattle.octets.specs.Boxes.{boxes}
use Rattle.panel.specs.Panel.{Panel}
use Rattle.panel.specs.Types.{bits}
use Rattle.panel.specs.declared.fmt.BitDepth.{BitDepth}
use Rattle.panel.specs.Agreement.{norm, Agree}
use Rattle.panel.specs.Widths.{DimsFit, Fits}
use Rattle.panel.specs.Form.{ordinary, wide}
use Rattle.heif.specs.File.{file}
use Rattle.heif.specs.Aperture.{whole, ◌is◌, first_column}
use Rattle.heif.specs.Refusal.{refusal}
use Rattle.heif_unique.proofs.Unique.{same_files}
use Rattle.heif_trials.specs.Panels.{panel_p, panel_p_stated, panel_p_other, seen_as, at_depths}

panel_p-dims : DimsFit panel_p.dims
panel_p-dims = record { tile_w = omega arith; tile_h = omega arith; full_w = omega arith; full_h = omega arith }

pub panel_p-fits : Fits panel_p
panel_p-fits = record { dims = panel_p-dims; visible = tt; light = tt; gain = tt }

pub panel_p-accepted : refusal ordinary panel_p ≡ 0
unfolding boxes flatten flat_map file refusal
panel_p-accepted = refl

pub panel_p_other-fits : Fits panel_p_other
panel_p_other-fits = record { dims = panel_p-dims; visible = tt; light = tt; gain = tt }

panel_p_other-accepted : refusal ordinary panel_p_other ≡ 0
unfolding boxes flatten flat_map file refusal
panel_p_other-accepted = refl

-- unstated and unspecified full-range colour
pub stated_agrees : Agree panel_p panel_p_stated
unfolding norm
stated_agrees = record { same = refl }

pub stated_differs : panel_p ≡ panel_p_stated → ⊥
stated_differs e = let z : ◌≡◌ {A = ℕ} 0 1 = ap (λ (p : Panel). length (option_to_list p.colour.cicp)) e in omega arith

-- so that they have one wide file
wide_panel_p-accepted : refusal wide panel_p ≡ 0
unfolding boxes flatten flat_map file refusal
wide_panel_p-accepted = refl

panel_p_stated-fits : Fits panel_p_stated
panel_p_stated-fits = record { dims = panel_p-dims; visible = tt; light = tt; gain = tt }

wide_panel_p_stated-accepted : refusal wide panel_p_stated ≡ 0
unfolding boxes flatten flat_map file refusal
wide_panel_p_stated-accepted = refl

pub stated_wide : file wide panel_p ≡ file wide panel_p_stated
stated_wide = (same_files wide panel_p panel_p_stated panel_p-fits panel_p_stated-fits wide_panel_p-accepted wide_panel_p_stated-accepted).1 stated_agrees

-- one sample byte
pub other-bytes : file ordinary panel_p ≡ file ordinary panel_p_other → ⊥
unfolding boxes flatten flat_map file
other-bytes e = let z : ◌≡◌ {A = ℕ} 0xAA 0xAC = ap (λ (l : List ℕ). get_or l 554 0) e in omega arith

-- so these two do not agree
pub other_disagrees : Agree panel_p panel_p_other → ⊥
other_disagrees h = other-bytes ((same_files ordinary panel_p panel_p_other panel_p-fits panel_p_other-fits panel_p-accepted panel_p_other-accepted).1 h)

-- the alpha depth: one byte of P's file, and nothing else in it
pub alpha_depth_byte : (d a : BitDepth) → let f = file ordinary (at_depths d d panel_p) in file ordinary (at_depths d a panel_p) ≡ take 443 f ‖ bits a ∷ drop 444 f
unfolding boxes flatten flat_map file
alpha_depth_byte d a = refl

-- P with a visible size, and all of its tile seen, shows what P shows, and is another panel with another file
pub whole_tile-fits : Fits (seen_as 64 64 panel_p)
whole_tile-fits = record { dims = panel_p-dims; visible = record { w = omega arith; h = omega arith }; light = tt; gain = tt }

whole_tile-accepted : refusal ordinary (seen_as 64 64 panel_p) ≡ 0
unfolding boxes flatten flat_map file refusal
whole_tile-accepted = refl

whole_tile-longer : file ordinary panel_p ≡ file ordinary (seen_as 64 64 panel_p) → ⊥
unfolding boxes flatten flat_map file
whole_tile-longer e = let z : ◌≡◌ {A = ℕ} 556 598 = ap length e in omega arith

pub whole_tile_disagrees : Agree panel_p (seen_as 64 64 panel_p) → ⊥
whole_tile_disagrees h = whole_tile-longer ((same_files ordinary panel_p (seen_as 64 64 panel_p) panel_p-fits whole_tile-fits panel_p-accepted whole_tile-accepted).1 h)

-- what a clean aperture shows depends on its offset: 63 columns in the middle of 64 begin with half of the first
pub middle_begins_at_half : first_column 64 (be 4 63 ‖ be 4 1 ‖ be 4 61 ‖ be 4 1 ‖ be 4 0 ‖ be 4 2 ‖ be 4 0 ‖ be 4 2) is (record { numerator = pos 1; denominator = 2 })
middle_begins_at_half = record { defined = omega arith; defined_too = omega arith; same = refl }

-- and half a column to the right of that they begin with the second
pub right_begins_at_one : first_column 64 (be 4 63 ‖ be 4 1 ‖ be 4 61 ‖ be 4 1 ‖ be 4 1 ‖ be 4 2 ‖ be 4 0 ‖ be 4 2) is whole (pos 1)
right_begins_at_one = record { defined = omega arith; defined_too = omega arith; same = refl }
