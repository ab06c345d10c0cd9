-- The samples are made by their lengths and bytes, and make them; the payloads in mdat tell the Exif, and where its TIFF header is; and how many bytes they have.
use mathlib.Core.Path.{◌≡◌, refl, sym, ap, ap₂, ◌∙◌}
use mathlib.Core.Bool.{Bool, true, false, cond}
use Rattle.std.specs.Prelude.{Option, None, Some, is_some, option_to_list}
use mathlib.Core.List.{List, [], ◌∷◌, ◌++◌, map, map-append, flatten}
use Prim.Native.Nat.{ℕ, suc, ◌+◌, ◌≤◌, ◌<◌}
use native.Mathlib.Omega.{arith}
use lib.ListN.{length, take, drop, length-drop, take-append-drop}
use lib.Seq.{length-take-le}
use Rattle.octets.specs.Numbers.{◌‖◌, be, value, total, ◌begins_with◌}
use Rattle.octets.proofs.Lists.{cancel, begins_front, begins_short, length-flatten, total-append}
use Rattle.panel.specs.Panel.{Tiles, Panel, Gain}
use Rattle.panel.specs.Parts.{tone_of, long}
use Rattle.heif.specs.Mdat.{samples, exif_marker, tiff_header_offset, exif_data_block, exif_payload, mdat, gain_payloads, exif_size, gain_data_size, mdat_size}
use Rattle.heif.specs.Items.{Even}

-- ---- samples: their lengths and their bytes make them, and are made by them

pub length-samples : (l b : List ℕ) → length (samples l b) ≡ length l
length-samples [] b = refl
length-samples (n ∷ l) b = ap suc (length-samples l _)

pub lengths-samples : (l b : List ℕ) → total l ≤ length b → map length (samples l b) ≡ l
lengths-samples [] b h = refl
lengths-samples (n ∷ l) b h = ap₂ ◌∷◌ (length-take-le n b (omega arith)) (lengths-samples l _ (omega (arith, length-drop n b)))

pub flatten-samples : (l b : List ℕ) → total l ≡ length b → flatten (samples l b) ≡ b
unfolding flatten
flatten-samples [] [] h = refl
flatten-samples [] (x ∷ b) h = absurd (omega arith)
flatten-samples (n ∷ l) b h = behind (flatten-samples l _ (omega (arith, length-drop n b))) (simp take-append-drop)
  where
    -- from whatever bytes c the definition cuts the other samples
    behind : {c : List ℕ} → flatten (samples l c) ≡ c → take n b ++ c ≡ b → take n b ++ flatten (samples l c) ≡ b
    behind s e = ap (λ (r : List ℕ). take n b ++ r) s ∙ e

abbrev pub cut : Tiles → List (List ℕ)
cut t = samples t.lengths t.bytes

pub record SameTiles (t u : Tiles) : Type 0 where
  pub lengths : t.lengths ≡ u.lengths
  pub bytes : t.bytes ≡ u.bytes

pub cut_inj : (t u : Tiles) → total t.lengths ≡ length t.bytes → total u.lengths ≡ length u.bytes → cut t ≡ cut u → SameTiles t u
cut_inj t u ht hu e =
    record {
      lengths = sym (lengths-samples t.lengths t.bytes (omega (arith, ht))) ∙ ap (map length) e ∙ lengths-samples u.lengths u.bytes (omega (arith, hu));
      bytes = sym (flatten-samples t.lengths t.bytes ht) ∙ ap flatten e ∙ flatten-samples u.lengths u.bytes hu;
    }

-- ---- the Exif

-- the payload tells the Exif: equal bytes behind the four
pub exif_inj : (s t : Option (List ℕ)) {x y : List (List ℕ)} → length x ≡ length y → exif_payload s ‖ x ≡ exif_payload t ‖ y → (s ≡ t) × (x ≡ y)
exif_inj None None n e = (refl, e)
exif_inj None (Some v) n e = absurd (omega (arith, ap length e))
exif_inj (Some u) None n e = absurd (omega (arith, ap length e))
exif_inj (Some u) (Some v) n e =
    let w : exif_data_block u ≡ exif_data_block v = cc in
    (ap Some (cancel (be 4 (tiff_header_offset u)) (be 4 (tiff_header_offset v)) refl w).1, cc)

-- the marker, byte by byte
abbrev marker_bytes : List ℕ
marker_bytes = 0x45 ∷ 0x78 ∷ 0x69 ∷ 0x66 ∷ 0x00 ∷ 0x00 ∷ []

-- the offset is 6 for Exif that begins with these, and 0 for all other, also for shorter
pub offset-marked : (tiff : List ℕ) → tiff_header_offset (marker_bytes ‖ tiff) ≡ 6
unfolding tiff_header_offset
offset-marked tiff = refl

pub offset_unmarked : (exif : List ℕ) → (take 6 exif ≡ marker_bytes → ⊥) → tiff_header_offset exif ≡ 0
unfolding tiff_header_offset
offset_unmarked exif h = go (exif begins_with exif_marker) refl
  where
    go : (b : Bool) → exif begins_with exif_marker ≡ b → cond {A = ℕ} b 6 0 ≡ 0
    go true e = absurd (h (ap (take 6) (begins_front exif exif_marker e)))
    go false e = refl

pub offset-short : (exif : List ℕ) → length exif < 6 → tiff_header_offset exif ≡ 0
unfolding tiff_header_offset
offset-short exif h = rw (begins_short exif exif_marker h)

-- what a reader finds in the payload: it goes on behind the four bytes by as many as they say
abbrev found : List ℕ → List ℕ
found block = drop (4 + value (take 4 block)) block

-- that is the TIFF header, with the marker before it and without
pub found-marked : (tiff : List ℕ) → found (exif_data_block (marker_bytes ‖ tiff)) ≡ tiff
found-marked tiff = rw (offset-marked tiff)

pub found_unmarked : (tiff : List ℕ) → (take 6 tiff ≡ marker_bytes → ⊥) → found (exif_data_block tiff) ≡ tiff
found_unmarked tiff h = rw (offset_unmarked tiff h)

-- ---- how many payloads, and how many bytes

pub length-exif_payload : (e : Option (List ℕ)) → length (exif_payload e) ≡ cond (is_some e) 1 0
length-exif_payload None = refl
length-exif_payload (Some e) = refl

pub length-gain_payloads : (g : Option Gain) → length (gain_payloads g) ≡ cond (is_some g) 2 0 + cond (is_some (tone_of g)) 1 0
length-gain_payloads None = refl
length-gain_payloads (Some g) = omega (arith, tone g.tone)
  where
    tone : (t : Option (List ℕ)) → length (option_to_list t) ≡ cond (is_some t) 1 0
    tone None = refl
    tone (Some t) = refl

total-exif_payload : (e : Option (List ℕ)) → total (map length (exif_payload e)) ≡ exif_size e
total-exif_payload None = refl
total-exif_payload (Some e) = omega arith

total-gain_payloads : (g : Option Gain) → total (map length (gain_payloads g)) ≡ gain_data_size g
total-gain_payloads None = refl
total-gain_payloads (Some g) = omega (arith, tone g.tone)
  where
    tone : (t : Option (List ℕ)) → total (map length (option_to_list t)) ≡ long t
    tone None = refl
    tone (Some t) = omega arith

pub length-mdat : (p : Panel) → Even p → length (mdat p).body ≡ mdat_size p
length-mdat p h =
    let colour = lengths-samples p.tiles.lengths p.tiles.bytes (omega arith) in
    let alpha = lengths-samples p.alpha.lengths p.alpha.bytes (omega arith) in
    simp (length-flatten, map-append, total-append, colour, alpha, total-exif_payload, total-gain_payloads) (omega arith)
