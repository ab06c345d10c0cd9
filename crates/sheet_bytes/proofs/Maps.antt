-- The map of a panel, read back from its bits, and why it is not refused.
use mathlib.Core.Path.{◌≡◌, refl, ap, ◌∙◌}
use mathlib.Core.Bool.{Bool, true, false, ◌||◌, cond}
use Rattle.std.specs.Prelude.{Option, None, Some, is_some}
use mathlib.Core.List.{List}
use Prim.Native.Nat.{ℕ, ◌/◌, ◌%◌, ◌≤◌}
use native.Mathlib.Omega.{arith}
use lib.Dec.{eqb}
use borrow.Author.Tests.{le-ltb}
use Rattle.octets.specs.Numbers.{be}
use Rattle.panel.specs.Panel.{Colour, Gain, Panel}
use Rattle.panel.specs.Parts.{tone_of}
use Rattle.panel.specs.Agreement.{shown}
use Rattle.panel.specs.Widths.{Of}
use Rattle.sheet_fields.specs.Read.{give, refuse}
use Rattle.sheet_frame.specs.Map.{map_of, without, bad_map, judged, sheet_map}
use Rattle.sheet_frame.specs.declared.map.Map.{Map}
use Rattle.sheet_bytes.specs.Bytes.{cicp_in, icc_in, alternate_in, weight, bits_of, present}
use Rattle.sheet_bytes.specs.Sayable.{Shown}
use Rattle.sheet_bytes.proofs.Says.{Says, closes, off_number}

weight_small : (b : Bool) → weight b ≤ 1
weight_small b = grind arith

weighed : (b : Bool) {n : ℕ} → n ≡ weight b → eqb n 1 ≡ b
weighed b e = grind arith

module _ (m : Map) where
  small : (weight m.cicp ≤ 1) × (weight m.icc ≤ 1) × (weight m.orientation ≤ 1) × (weight m.light_level ≤ 1) × (weight m.exif ≤ 1)
      × (weight m.gain_map ≤ 1) × (weight m.tmap ≤ 1) × (weight m.alternate_cicp ≤ 1) × (weight m.alternate_icc ≤ 1)
  small = (weight_small m.cicp, weight_small m.icc, weight_small m.orientation, weight_small m.light_level, weight_small m.exif, weight_small m.gain_map, weight_small m.tmap, weight_small m.alternate_cicp, weight_small m.alternate_icc)

  bits_small : bits_of m ≤ 511
  bits_small = omega (arith, small)

  map_back : map_of (bits_of m) ≡ m
  unfolding map_of
  map_back =
      let cicp : bits_of m / 1 % 2 ≡ weight m.cicp = omega (arith, small) in
      let icc : bits_of m / 2 % 2 ≡ weight m.icc = omega (arith, small) in
      let orientation : bits_of m / 4 % 2 ≡ weight m.orientation = omega (arith, small) in
      let light_level : bits_of m / 8 % 2 ≡ weight m.light_level = omega (arith, small) in
      let exif : bits_of m / 16 % 2 ≡ weight m.exif = omega (arith, small) in
      let gain_map : bits_of m / 32 % 2 ≡ weight m.gain_map = omega (arith, small) in
      let tmap : bits_of m / 64 % 2 ≡ weight m.tmap = omega (arith, small) in
      let alternate_cicp : bits_of m / 128 % 2 ≡ weight m.alternate_cicp = omega (arith, small) in
      let alternate_icc : bits_of m / 256 % 2 ≡ weight m.alternate_icc = omega (arith, small) in
      λ i. record {
        cicp = weighed m.cicp cicp i;
        icc = weighed m.icc icc i;
        orientation = weighed m.orientation orientation i;
        light_level = weighed m.light_level light_level i;
        exif = weighed m.exif exif i;
        gain_map = weighed m.gain_map gain_map i;
        tmap = weighed m.tmap tmap i;
        alternate_cicp = weighed m.alternate_cicp alternate_cicp i;
        alternate_icc = weighed m.alternate_icc alternate_icc i;
      }

-- a field stands only with the one that it belongs to
abbrev loose : Option Gain → Bool
loose g = without (is_some (tone_of g)) (is_some g) || without (is_some (cicp_in (alternate_in g)) || is_some (icc_in (alternate_in g))) (is_some (tone_of g))

without_true : (b : Bool) → without b true ≡ false
without_true b = grind arith

loose_of : (tone : Option (List ℕ)) (a : Option Colour) → shown tone a ≡ a → (without (is_some tone) true || without (is_some (cicp_in a) || is_some (icc_in a)) (is_some tone)) ≡ false
loose_of t a e = grind (arith, without_true)

not_loose : (g : Option Gain) → Of Shown g → loose g ≡ false
not_loose None h = refl
not_loose (Some g) h = loose_of g.tone g.alternate h.same

pub off_map : (p : Panel) → Of Shown p.gain → Says sheet_map (be 2 (bits_of (present p))) (present p)
unfolding sheet_map judged
off_map p h =
    let m = present p in
    let b : bad_map (bits_of m) m ≡ false = ap (λ (x : Bool). x || loose p.gain) (le-ltb _ _ (bits_small m)) ∙ not_loose p.gain h in
    closes _ (off_number 2 (bits_of m) (let s = bits_small m in omega arith))
    (ap (λ v. cond (bad_map (bits_of m) v) (refuse 12) (give v)) (map_back m) ∙ ap (λ x. cond x (refuse 12) (give m)) b)
