-- The runs laid one behind the other from the first position on are the positions that the definition counts, role by role.
use mathlib.Core.Path.{◌≡◌, refl, sym, ap}
use mathlib.Core.Bool.{Bool, true, false, cond}
use Rattle.std.specs.Prelude.{Option, None, Some, is_some}
use mathlib.Core.List.{List}
use Prim.Native.Nat.{ℕ, ◌+◌, ◌-◌, ◌≤◌, max}
use native.Mathlib.Omega.{arith}
use lib.ListN.{length, length-append}
use Rattle.octets.specs.Boxes.{Box, optional}
use Rattle.panel.specs.Types.{bits, irot_steps, imir_axis}
use Rattle.panel.specs.Panel.{Colour, Metadata, Gain, Panel}
use Rattle.panel.specs.Parts.{tone_of}
use Rattle.panel.proofs.Parts.{length-optional}
use Rattle.heif.specs.Items.{ids_from}
use Rattle.heif.specs.Ipco
use Rattle.heif.specs.Colr.{alternates, second_colr, second_colr_count, alternates_count}
use Rattle.panel.specs.declared.VisibleSize.{VisibleSize}
use Rattle.panel.specs.declared.color.Cicp.{Cicp}
use Rattle.heif.specs.Clli.{clli_payload, clli_count}
use Rattle.heif.specs.Clap.{clap_payload, clap_count}
use Rattle.heif.specs.Imir.{imir_payload, imir_count}
use Rattle.heif.specs.Irot.{irot_payload, irot_count}
use Rattle.heif.specs.Pixi.{pixi}
use Rattle.heif.specs.Ispe.{tone_ispe}
use Rattle.heif.specs.Ipma.{positions}
use Rattle.heif.proofs.Few.{few}
use Rattle.heif.proofs.Colr.{length-second_colr, length-alternates}
use Rattle.heif.proofs.Clli.{length-clli}
use Rattle.heif.proofs.Clap.{length-clap}
use Rattle.panel.proofs.Agreement.{with_gain}
use Rattle.plan_runs.specs.GainMap.{image_at, tone_at, behind_image}
use Rattle.plan_runs.specs.Pictures.{colour_at, alpha_at, options_at}
use Rattle.plan_runs.specs.declared.pictures.ColorPlaces.{ColorPlaces}
use Rattle.plan_runs.specs.declared.pictures.AlphaPlaces.{AlphaPlaces}
use Rattle.plan_runs.specs.declared.pictures.OptionPlaces.{OptionPlaces}
use Rattle.plan_positions.specs.Gain.{images, tones, toned_alternates, gain_at, behind_gain}
use Rattle.plan_positions.specs.declared.gain.GainPlaces.{GainPlaces}
use Rattle.plan_positions.specs.Options.{optional_at, behind_optional}
use Rattle.plan_runs.specs.Roles.{its_of}
use Rattle.plan_positions.specs.Placed.{Placed}
use Rattle.plan_runs.specs.declared.Places.{Places}

-- all places, with c second colr, r irot, m imir, l clli, v clap, g boxes of each kind of the gain image, t of the tone map, and a
-- alternate colours
abbrev pub laid : ℕ → ℕ → ℕ → ℕ → ℕ → ℕ → ℕ → ℕ → Places
laid c r m l v g t a =
    let n = 9 + c + r + m + l + v in
    record {
      color = colour_at 1;
      alpha = alpha_at 6;
      options = options_at 9 c r m l v;
      image = image_at n g;
      tone = tone_at (behind_image n g) t a;
      count = 8 + c + r + m + l + v + g + g + g + g + g + t + t + a;
    }

-- how many boxes the definition has of each
abbrev pub second_colrs : Panel → ℕ
second_colrs p = length (optional "colr" (second_colr p.colour.cicp p.colour.icc))

abbrev pub irots : Panel → ℕ
irots p = length (optional "irot" (irot_payload (irot_steps p.metadata.orientation)))

abbrev pub imirs : Panel → ℕ
imirs p = length (optional "imir" (imir_payload (imir_axis p.metadata.orientation)))

abbrev pub cllis : Panel → ℕ
cllis p = length (optional "clli" (clli_payload p.metadata.light))

abbrev pub claps : Panel → ℕ
claps p = length (optional "clap" (clap_payload p.dims p.visible))

-- alternate colours belong to a tone map
abbrev pub alternate_boxes : Option Gain → ℕ
alternate_boxes None = 0
alternate_boxes (Some g) = cond (is_some g.tone) (length (alternates g.alternate)) 0

-- ---- the tone map's roles, from n on

module _ (n : ℕ) (size depth : Box) where
  ispe-toned : (t : Option (List ℕ)) (a : Option Colour) → ids_from n (cond (is_some t) 1 0) ≡ positions n (Ipco.tone_slots size depth t a) Ipco.ispe_tone
  ispe-toned None a = refl
  ispe-toned (Some t) a = refl

  pixi-toned : (t : Option (List ℕ)) (a : Option Colour)
      → ids_from (n + cond (is_some t) 1 0) (cond (is_some t) 1 0) ≡ positions n (Ipco.tone_slots size depth t a) Ipco.pixi_tone
  pixi-toned None a = refl
  pixi-toned (Some t) a = refl

  colr-toned : (t : Option (List ℕ)) (a : Option Colour)
      → ids_from (n + cond (is_some t) 1 0 + cond (is_some t) 1 0) (cond (is_some t) (length (alternates a)) 0) ≡ positions n (Ipco.tone_slots size depth t a) Ipco.colr_tone
  colr-toned None a = refl
  colr-toned (Some t) a = refl

-- ---- all roles

in_role : (p : Panel) (g : Option Gain) (r : Ipco.Role)
    → its_of (laid (second_colrs p) (irots p) (imirs p) (cllis p) (claps p) (images g) (tones g) (alternate_boxes g)) r ≡ positions 1 (Ipco.slots (with_gain p g)) r
unfolding its_of
in_role p g Ipco.hvcC_colour = refl
in_role p g Ipco.ispe_tile = refl
in_role p g Ipco.ispe_whole = refl
in_role p g Ipco.colr_first = refl
in_role p g Ipco.pixi_colour = refl
in_role p g Ipco.hvcC_alpha = refl
in_role p g Ipco.pixi_alpha = refl
in_role p g Ipco.auxC_alpha = refl
in_role p g Ipco.colr_second = refl
in_role p g Ipco.irot = refl
in_role p g Ipco.imir = refl
in_role p g Ipco.clli = refl
in_role p g Ipco.clap = refl
in_role p None Ipco.hvcC_gain = refl
in_role p (Some g) Ipco.hvcC_gain = refl
in_role p None Ipco.ispe_gain = refl
in_role p (Some g) Ipco.ispe_gain = refl
in_role p None Ipco.pixi_gain = refl
in_role p (Some g) Ipco.pixi_gain = refl
in_role p None Ipco.auxC_gain = refl
in_role p (Some g) Ipco.auxC_gain = refl
in_role p None Ipco.colr_gain = refl
in_role p (Some g) Ipco.colr_gain = refl
in_role p None Ipco.ispe_tone = refl
in_role p (Some g) Ipco.ispe_tone = ispe-toned _ _ _ g.tone g.alternate
in_role p None Ipco.pixi_tone = refl
in_role p (Some g) Ipco.pixi_tone = pixi-toned _ _ _ g.tone g.alternate
in_role p None Ipco.colr_tone = refl
in_role p (Some g) Ipco.colr_tone = colr-toned _ _ _ g.tone g.alternate

-- ---- how many

tone_counted : (size depth : Box) (t : Option (List ℕ)) (a : Option Colour)
    → length (Ipco.held (Ipco.tone_slots size depth t a)) ≡ cond (is_some t) 1 0 + cond (is_some t) 1 0 + cond (is_some t) (length (alternates a)) 0
tone_counted size depth None a = refl
tone_counted size depth (Some t) a = simp length-append (omega arith)

gain_counted : (size depth : Box) (g : Option Gain)
    → length (Ipco.held (Ipco.gain_slots size depth g)) ≡ images g + images g + images g + images g + images g + tones g + tones g + alternate_boxes g
gain_counted size depth None = refl
gain_counted size depth (Some g) = omega (arith, tone_counted size depth g.tone g.alternate)

pub in_all : (p : Panel) → let k = images p.gain in let t = tones p.gain in
    8 + second_colrs p + irots p + imirs p + cllis p + claps p + k + k + k + k + k + t + t + alternate_boxes p.gain ≡ length (Ipco.properties p)
in_all p = simp length-append (omega (arith, gain_counted (tone_ispe p.dims p.metadata.orientation) (pixi 3 (max (bits p.depth) 10)) p.gain))

-- ---- the counts as the code has them

length-toned : (g : Option Gain) → toned_alternates g ≡ alternate_boxes g
length-toned None = refl
length-toned (Some g) = ap (λ (k : ℕ). cond {A = ℕ} (is_some g.tone) k 0) (sym (length-alternates g.alternate))

-- the places of a panel
abbrev laid_of : Panel → Places
laid_of p =
    laid
    (second_colr_count p.colour.cicp p.colour.icc)
    (irot_count p.metadata.orientation)
    (imir_count p.metadata.orientation)
    (clli_count p.metadata.light)
    (clap_count p.visible)
    (images p.gain)
    (tones p.gain)
    (toned_alternates p.gain)

-- with so many of each as the definition has
counted : (p : Panel) → laid_of p ≡ laid (second_colrs p) (irots p) (imirs p) (cllis p) (claps p) (images p.gain) (tones p.gain) (alternate_boxes p.gain)
counted p = simp (length-second_colr, length-clli, length-clap, length-optional, length-toned)

placed_of : (p : Panel) → Placed p (laid_of p)
placed_of p = rw (counted p) (record { count = in_all p; role = in_role p p.gain })

-- parts that each begin where the one before it ends
pub placed_in_turn : (p : Panel) {color : ColorPlaces} {alpha : AlphaPlaces} {options : OptionPlaces} {gain : GainPlaces} {a b c n : ℕ}
    → color ≡ colour_at 1 → a ≡ 6 → alpha ≡ alpha_at a → b ≡ 9 → options ≡ optional_at b p.colour p.metadata p.visible → c ≡ behind_optional b p.colour p.metadata p.visible
    → gain ≡ gain_at c p.gain → n ≡ behind_gain c p.gain
    → Placed p (record { color = color; alpha = alpha; options = options; image = gain.image; tone = gain.tone; count = n - 1 })
placed_in_turn p {n = n} color a alpha b options c gain h =
    let count : n - 1 ≡ (laid_of p).count = omega arith in
    rw (count, gain, options, alpha, color, c, b, a) (placed_of p)

-- ---- how many there can be

at_most : (b : Bool) (n : ℕ) → cond b n 0 ≤ n
at_most true n = omega arith
at_most false n = omega arith

few_second : (cicp : Option Cicp) (icc : Option (List ℕ)) → second_colr_count cicp icc ≤ 1
few_second None icc = omega arith
few_second (Some c) icc = at_most (is_some icc) 1

few_alternates : (a : Option Colour) → alternates_count a ≤ 2
few_alternates None = omega arith
few_alternates (Some a) = omega (arith, at_most (is_some a.cicp) 1, at_most (is_some a.icc) 1)

few_toned : (g : Option Gain) → toned_alternates g ≤ 2
few_toned None = omega arith
few_toned (Some g) = omega (arith, at_most (is_some g.tone) (alternates_count g.alternate), few_alternates g.alternate)

pub few_optional : (n : ℕ) (c : Colour) (m : Metadata) (v : Option VisibleSize) → behind_optional n c m v ≤ n + 5
few_optional n c m v = omega (arith, few_second c.cicp c.icc, at_most (is_some (irot_payload (irot_steps m.orientation))) 1, at_most (is_some (imir_payload (imir_axis m.orientation))) 1, at_most (is_some m.light) 1, at_most (is_some v) 1)

pub few_gain : (n : ℕ) (g : Option Gain) → behind_gain n g ≤ n + 9
few_gain n g = omega (arith, at_most (is_some g) 1, at_most (is_some (tone_of g)) 1, few_toned g)

-- of each role at most two
pub few_placed : (p : Panel) {y : Places} → Placed p y → (r : Ipco.Role) → length (its_of y r) ≤ 2
few_placed p h r = omega (arith, few p r, ap length (h.role r))
