-- Equal lists of properties come from equal fields: the first eight by their places, the optional ones by their types, the gain map's behind them.
use mathlib.Core.Path.{◌≡◌, refl, sym, ap, ◌∙◌}
use Rattle.std.specs.Prelude.{Option, None, Some, option_to_list}
use mathlib.Core.List.{List, [], ◌∷◌, append-nil}
use Prim.Native.Nat.{ℕ, suc, max}
use Prim.Native.String.{String}
use native.Mathlib.Omega.{arith}
use lib.ListN.{length, get_or, drop}
use Rattle.octets.specs.Boxes.{Box}
use Rattle.octets.proofs.Boxes.{body_at, Leads, leads_none, leads_first, row_inj}
use Rattle.panel.specs.Types.{bits, irot_steps, imir_axis}
use Rattle.panel.specs.Panel.{Colour, Gain, Panel}
use Rattle.panel.specs.Agreement.{stated, shown, norm_gain}
use Rattle.panel.specs.Widths.{Of, GainFits, Fits}
use Rattle.heif.specs.Mdat.{gain_payloads}
use Rattle.heif.specs.Colr.{second_colr, alternates}
use Rattle.heif.specs.Pixi.{pixi}
use Rattle.heif.specs.Irot.{irot_payload}
use Rattle.heif.specs.Imir.{imir_payload}
use Rattle.heif.specs.Clli.{clli_payload}
use Rattle.heif.specs.Clap.{clap_payload}
use Rattle.heif.specs.Ispe.{tone_ispe}
use Rattle.heif.specs.Ipco.{tone_slots, gain_slots, held, properties}
use Rattle.heif.proofs.Colr.{nclx_inj, colour_inj, alternates_inj}
use Rattle.heif.proofs.Imir.{orientation_inj}
use Rattle.heif.proofs.Clli.{clli_inj}
use Rattle.heif.proofs.Clap.{clap_inj}
use Rattle.heif.proofs.Ispe.{ispe_inj}
use Rattle.heif.proofs.Pixi.{pixi_inj}
use Rattle.heif.proofs.Ipco.{depths_told}

-- ---- the gain map

tone-length : (s d s' d' : Box) (t u : Option (List ℕ)) (a b : Option Colour) → held (tone_slots s d t a) ≡ held (tone_slots s' d' u b) → length (option_to_list t) ≡ length (option_to_list u)
tone-length s d s' d' None None a b e = refl
tone-length s d s' d' None (Some u) a b e = absurd (omega (arith, ap length e))
tone-length s d s' d' (Some t) None a b e = absurd (omega (arith, ap length e))
tone-length s d s' d' (Some t) (Some u) a b e = refl

tone_inj : (s d s' d' : Box) (t u : Option (List ℕ)) (a b : Option Colour) → held (tone_slots s d t a) ≡ held (tone_slots s' d' u b) → option_to_list t ≡ option_to_list u
    → (t ≡ u) × (shown t a ≡ shown u b)
tone_inj s d s' d' None None a b e h = (refl, refl)
tone_inj s d s' d' None (Some u) a b e h = absurd (omega (arith, ap length e))
tone_inj s d s' d' (Some t) None a b e h = absurd (omega (arith, ap length e))
tone_inj s d s' d' (Some t) (Some u) a b e h =
    let w : t ≡ u = cc in
    (ap Some w, alternates_inj t u a b (sym (append-nil (alternates a)) ∙ ap (drop 2) e ∙ append-nil (alternates b)))

-- as many payloads on both sides
pub gain-length : (s d s' d' : Box) (g h : Option Gain) → held (gain_slots s d g) ≡ held (gain_slots s' d' h) → length (gain_payloads g) ≡ length (gain_payloads h)
gain-length s d s' d' None None e = refl
gain-length s d s' d' None (Some h) e = absurd (omega (arith, ap length e))
gain-length s d s' d' (Some g) None e = absurd (omega (arith, ap length e))
gain-length s d s' d' (Some g) (Some h) e =
    ap (λ (n : ℕ). suc (suc n)) (tone-length s d s' d' g.tone h.tone g.alternate h.alternate (ap (drop 5) e))

-- properties and payloads together make the gain map
pub gain_inj : (s d s' d' : Box) (g h : Option Gain) → Of GainFits g → Of GainFits h → held (gain_slots s d g) ≡ held (gain_slots s' d' h)
    → gain_payloads g ≡ gain_payloads h → norm_gain g ≡ norm_gain h
unfolding body_at
gain_inj s d s' d' None None fg fh e p = refl
gain_inj s d s' d' None (Some h) fg fh e p = absurd (omega (arith, ap length e))
gain_inj s d s' d' (Some g) None fg fh e p = absurd (omega (arith, ap length e))
gain_inj s d s' d' (Some g) (Some h) fg fh e p =
    let c : g.hvcc ≡ h.hvcc = ap (body_at 0) e in
    let z = ispe_inj fg.width fg.height fh.width fh.height (ap (body_at 1) e) in
    let b = pixi_inj 0 g.depth h.depth (ap (body_at 2) e) in
    let n = nclx_inj g.cicp h.cicp (ap (body_at 4) e) in
    let m : g.sample ≡ h.sample = cc in
    let x : g.xmp ≡ h.xmp = cc in
    let l : option_to_list g.tone ≡ option_to_list h.tone = cc in
    let t = tone_inj s d s' d' g.tone h.tone g.alternate h.alternate (ap (drop 5) e) l in
    λ i. Some (record {
      hvcc = c i;
      sample = m i;
      width = z.0 i;
      height = z.1 i;
      depth = b i;
      cicp = n i;
      xmp = x i;
      tone = t.0 i;
      alternate = t.1 i;
    })

-- ---- the panel's properties

abbrev pub gain_props : Panel → List Box
gain_props p = held (gain_slots (tone_ispe p.dims p.metadata.orientation) (pixi 3 (max (bits p.depth) 10)) p.gain)

gain_leads : (s d : Box) (g : Option Gain) → Leads "hvcC" (held (gain_slots s d g))
gain_leads s d None = leads_none "hvcC"
gain_leads s d (Some g) = leads_first "hvcC" g.hvcc _

-- the optional ones
abbrev kinds : List String
kinds = "colr" ∷ "irot" ∷ "imir" ∷ "clli" ∷ "clap" ∷ []

abbrev options : Panel → List (Option (List ℕ))
options p =
    second_colr p.colour.cicp p.colour.icc
    ∷ irot_payload (irot_steps p.metadata.orientation)
    ∷ imir_payload (imir_axis p.metadata.orientation)
    ∷ clli_payload p.metadata.light
    ∷ clap_payload p.dims p.visible
    ∷ []

option_at : ℕ → List (Option (List ℕ)) → Option (List ℕ)
option_at n l = get_or l n None

pub record SameFields (p q : Panel) : Type 0 where
  pub hvcc : p.tiles.hvcc ≡ q.tiles.hvcc
  pub alpha_hvcc : p.alpha.hvcc ≡ q.alpha.hvcc
  pub tile : (p.dims.tile_w ≡ q.dims.tile_w) × (p.dims.tile_h ≡ q.dims.tile_h)
  pub whole : (p.dims.full_w ≡ q.dims.full_w) × (p.dims.full_h ≡ q.dims.full_h)
  pub depth : p.depth ≡ q.depth
  pub alpha_depth : p.alpha_depth ≡ q.alpha_depth
  pub colour : stated p.colour.cicp p.colour.icc ≡ stated q.colour.cicp q.colour.icc
  pub orientation : p.metadata.orientation ≡ q.metadata.orientation
  pub light : p.metadata.light ≡ q.metadata.light
  pub visible : p.visible ≡ q.visible
  pub gain : gain_props p ≡ gain_props q

pub same-fields : (p q : Panel) → Fits p → Fits q → properties p ≡ properties q → SameFields p q
unfolding body_at option_at
same-fields p q fp fq e =
    let a = row_inj "hvcC" kinds (options p) (options q) (gain_props p) (gain_props q) tt (gain_leads _ _ p.gain) (gain_leads _ _ q.gain) refl refl (ap (drop 8) e) in
    let d = depths_told p q e in
    let at : (n : ℕ) → option_at n (options p) ≡ option_at n (options q) = λ n. ap (option_at n) a.0 in
    record {
      hvcc = ap (body_at 0) e;
      alpha_hvcc = ap (body_at 5) e;
      tile = ispe_inj fp.dims.tile_w fp.dims.tile_h fq.dims.tile_w fq.dims.tile_h (ap (body_at 1) e);
      whole = ispe_inj fp.dims.full_w fp.dims.full_h fq.dims.full_w fq.dims.full_h (ap (body_at 2) e);
      depth = d.0;
      alpha_depth = d.1;
      colour = colour_inj p.colour.cicp q.colour.cicp p.colour.icc q.colour.icc (ap (body_at 3) e) (at 0);
      orientation = orientation_inj p.metadata.orientation q.metadata.orientation (at 1) (at 2);
      light = clli_inj p.metadata.light q.metadata.light fp.light fq.light (at 3);
      visible = clap_inj p.dims q.dims p.visible q.visible fp.visible fq.visible (at 4);
      gain = a.1;
    }
