-- In the ordinary form the file's length is the sum of its shares: what each part of a panel adds to one box after the other is gathered
-- into one number.
use mathlib.Core.Path.{◌≡◌, refl}
use mathlib.Core.Bool.{Bool, true, false, cond}
use Rattle.std.specs.Prelude.{◌&&◌, not, Option, None, Some, is_some}
use mathlib.Core.List.{List, [], ◌∷◌}
use Prim.Native.Nat.{ℕ, ◌+◌, ◌*◌}
use native.Mathlib.Omega.{arith}
use lib.ListN.{length}
use Rattle.std.proofs.lemmas.List.Sums.{sum_by-cons, sum_by-append}
use Rattle.std.proofs.lemmas.List.Sorted.{sum_by-IsPermutation}
use Rattle.octets.specs.Numbers.{◌‖◌}
use Rattle.panel.specs.Panel.{Colour, Gain, Panel}
use Rattle.panel.specs.Form.{ordinary}
use Rattle.panel.specs.Parts.{given, tone_of, long}
use Rattle.panel.specs.declared.VisibleSize.{VisibleSize}
use Rattle.panel.specs.declared.color.Cicp.{Cicp}
use Rattle.heif.specs.Idat.{idat_size}
use Rattle.heif.specs.File.{file, size}
use Rattle.heif.specs.Refusal.{refusal}
use Rattle.heif.specs.Hvcc.{rext}
use Rattle.heif.specs.Ftyp.{gain_rext}
use Rattle.heif.specs.Items.{shape, Even}
use Rattle.heif.specs.Clap.{clap_count, clap_size}
use Rattle.heif.specs.Colr.{first_colr_size, second_colr_count, second_colr_size, alternates_count, stated_size, alternates_size}
use Rattle.heif.specs.Ipma.{turn_count, gain_association_count}
use Rattle.heif.specs.Ipco.{tone_properties_size, gain_properties_size}
use Rattle.heif.specs.Iref.{reference_size}
use Rattle.heif.specs.Mdat.{exif_size, gain_data_size}
use Rattle.heif.proofs.Refusal.{accepted, even-accepted}
use Rattle.heif.proofs.File.{length-file}
use Rattle.heif_length.specs.Extras.{Extra, large_picture, irot, imir, gain_map, tone_map, alternate_cicp, ◌has◌, ◌lists◌}
use Rattle.heif_length.specs.Shares.{share, shares, bare, replaced_colr, replaced, meetings}
use Rattle.heif_length.proofs.Extras.{visible_extras, exif_extras, colour_extras, profile_extras, alternate_extras, tone_extras, gain_extras, extras}
use Rattle.heif_length.proofs.Extras.{extras_listed, only_reordered}

-- ---- what extras add together

-- an extra that is there only if so
shares-given : (b : Bool) (x : Extra) → shares (given b (x ∷ [])) ≡ share x * cond b 1 0
shares-given true x = omega arith
shares-given false x = omega arith

-- ---- part by part: the boxes that it adds to, and what it adds to each

-- idat
grid-shares : (p : Panel) → 16 + share large_picture * cond (p has large_picture) 1 0 ≡ idat_size p.dims
grid-shares p = grind arith

-- ipco, and ipma for each tile
visible-shares : (n : ℕ) (v : Option VisibleSize) → shares (visible_extras n v) ≡ clap_size v + 2 * clap_count v * n
visible-shares n None = omega arith
visible-shares n (Some v) = omega arith

-- iloc and iinf, iref, mdat
exif-shares : (e : Option (List ℕ)) → shares (exif_extras e) ≡ (16 + 21) * cond (is_some e) 1 0 + cond (is_some e) (reference_size ordinary 1) 0 + exif_size e
exif-shares None = refl
exif-shares (Some e) = omega arith

-- ipco, ipma
colour-shares : (c : Option Cicp) (i : Option (List ℕ))
    → 19 + shares (colour_extras c i) ≡ first_colr_size c i + second_colr_size c i + second_colr_count c i + replaced_colr c i
colour-shares (Some c) None = refl
colour-shares (Some c) (Some i) = omega arith
colour-shares None None = refl
colour-shares None (Some i) = omega arith

-- ipco, ipma
alternate-shares : (a : Option Colour) → shares (alternate_extras a) ≡ alternates_size a + alternates_count a
alternate-shares None = refl
alternate-shares (Some a) = stated a.cicp a.icc
  where
    stated : (c : Option Cicp) (i : Option (List ℕ))
        → shares (given (is_some c) (alternate_cicp ∷ []) ‖ profile_extras i)
        ≡ stated_size c i + (cond (is_some c) 1 0 + cond (is_some i) 1 0)
    stated None None = refl
    stated None (Some i) = omega arith
    stated (Some c) None = refl
    stated (Some c) (Some i) = omega arith

-- ftyp; iloc and iinf; iref; ipco; ipma; grpl; mdat
tone-shares : (t : Option (List ℕ)) (a : Option Colour)
    → shares (tone_extras t a)
    ≡ cond (is_some t) 4 0 + (16 + 21) * cond (is_some t) 1 0 + cond (is_some t) (reference_size ordinary 2) 0 + tone_properties_size t a
    + (3 * cond (is_some t) 1 0 + cond (is_some t) (2 + alternates_count a) 0) + cond (is_some t) 36 0 + long t
tone-shares None a = refl
tone-shares (Some t) a = omega (arith, sum_by-cons share (tone_map (length t)) (alternate_extras a), alternate-shares a)

-- with irot and imir, which the gain image takes too
gain-shares : (turns : ℕ) (g : Option Gain)
    → let tone = is_some (tone_of g) in
    shares (gain_extras g) + cond (is_some g) turns 0
    ≡ cond tone 4 0 + ((16 + 21) * (cond (is_some g) 2 0 + cond tone 1 0) + cond (is_some g) 20 0)
    + (cond (is_some g) (2 * reference_size ordinary 1) 0 + cond tone (reference_size ordinary 2) 0) + gain_properties_size g
    + (3 * (cond (is_some g) 1 0 + cond tone 1 0) + gain_association_count turns g) + cond tone 36 0 + gain_data_size g
gain-shares turns None = refl
gain-shares turns (Some g) =
    omega (arith, sum_by-cons share (gain_map (length g.hvcc) (length g.sample) (length g.xmp)) (tone_extras g.tone g.alternate), tone-shares g.tone g.alternate)

-- ---- all parts

-- ipco, ipma for each grid
turns_counted : (p : Panel) → cond (p has irot) 1 0 + cond (p has imir) 1 0 ≡ turn_count p.metadata.orientation
turns_counted p = grind arith

-- ipma for the gain image, and ftyp
meetings_counted : (p : Panel) → meetings p ≡ cond (is_some p.gain) (turn_count p.metadata.orientation) 0 + cond (gain_rext p.gain && not (rext p.tiles.hvcc)) 4 0
meetings_counted p = grind arith

size_as_sum : (p : Panel) → size ordinary p + replaced p ≡ bare p + shares (extras p) + meetings p
size_as_sum p =
    simp (sum_by-append, shares-given)
    (omega (
      arith,
      grid-shares p,
      turns_counted p,
      meetings_counted p,
      visible-shares (shape p).tiles p.visible,
      exif-shares p.metadata.exif,
      colour-shares p.colour.cicp p.colour.icc,
      gain-shares (turn_count p.metadata.orientation) p.gain,
    ))

-- with the shares of whatever list has the panel's extras, each once
pub length_as_sum : (p : Panel) (l : List Extra) → Even p → l lists p → length (file ordinary p) + replaced p ≡ bare p + shares l + meetings p
length_as_sum p l h k =
    omega (arith, length-file ordinary p h, size_as_sum p, sum_by-IsPermutation share (extras p) l (only_reordered p (extras p) l (extras_listed p) k))

pub accepted-length_as_sum : (p : Panel) (l : List Extra) → refusal ordinary p ≡ 0 → l lists p
    → length (file ordinary p) + replaced p ≡ bare p + shares l + meetings p
accepted-length_as_sum p l h k = length_as_sum p l (even-accepted ordinary p (accepted ordinary p h)) k
