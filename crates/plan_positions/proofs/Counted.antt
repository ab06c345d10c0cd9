-- How many properties the places of a panel have, in all and of those that may be absent.
use mathlib.Core.Path.{◌≡◌, refl, sym, ap, ◌∙◌}
use mathlib.Core.Bool.{cond}
use Rattle.std.specs.Prelude.{Option, None, Some, is_some}
use mathlib.Core.List.{List}
use Prim.Native.Nat.{ℕ, ◌+◌}
use native.Mathlib.Omega.{arith}
use lib.ListN.{length}
use Rattle.panel.specs.Panel.{Gain, Panel}
use Rattle.panel.specs.Types.{irot_steps, imir_axis}
use Rattle.panel.proofs.Parts.{length-optional}
use Rattle.heif.specs.Ipco
use Rattle.heif.specs.Ipco.{gain_property_count}
use Rattle.heif.specs.Colr.{alternates, second_colr_count, alternates_count}
use Rattle.heif.specs.Imir.{imir_payload, imir_count}
use Rattle.heif.specs.Irot.{irot_payload, irot_count}
use Rattle.heif.specs.Clap.{clap_count}
use Rattle.heif.proofs.Items.{length-ids_from}
use Rattle.heif.proofs.Colr.{length-second_colr, length-alternates}
use Rattle.heif.proofs.Clli.{length-clli}
use Rattle.heif.proofs.Clap.{length-clap}
use Rattle.plan_runs.proofs.Runs.{length-places}
use Rattle.plan_runs.specs.Roles.{its_of}
use Rattle.plan_positions.specs.Gain.{images, tones}
use Rattle.plan_positions.specs.Placed.{Placed}
use Rattle.plan_runs.specs.declared.Places.{Places}
use Rattle.plan_positions.proofs.Roles.{in_all, alternate_boxes}

module _ (p : Panel) (y : Places) (h : Placed p y) where
  pub irot-placed : y.options.irot.count ≡ irot_count p.metadata.orientation
  unfolding its_of
  irot-placed = sym (length-places y.options.irot) ∙ ap length (h.role Ipco.irot) ∙ length-ids_from _ _ ∙ length-optional "irot" (irot_payload (irot_steps p.metadata.orientation))

  pub imir-placed : y.options.imir.count ≡ imir_count p.metadata.orientation
  unfolding its_of
  imir-placed = sym (length-places y.options.imir) ∙ ap length (h.role Ipco.imir) ∙ length-ids_from _ _ ∙ length-optional "imir" (imir_payload (imir_axis p.metadata.orientation))

  pub clli-placed : y.options.clli.count ≡ cond (is_some p.metadata.light) 1 0
  unfolding its_of
  clli-placed = sym (length-places y.options.clli) ∙ ap length (h.role Ipco.clli) ∙ length-ids_from _ _ ∙ length-clli p.metadata.light

  pub clap-placed : y.options.clap.count ≡ clap_count p.visible
  unfolding its_of
  clap-placed = sym (length-places y.options.clap) ∙ ap length (h.role Ipco.clap) ∙ length-ids_from _ _ ∙ length-clap p.dims p.visible

gain_all : (g : Option Gain) → let k = images g in let t = tones g in k + k + k + k + k + t + t + alternate_boxes g ≡ gain_property_count g
gain_all None = refl
gain_all (Some g) = toned g.tone
  where
    toned : (t : Option (List ℕ)) → let k = cond {A = ℕ} (is_some t) 1 0 in
        1 + 1 + 1 + 1 + 1 + k + k + cond (is_some t) (length (alternates g.alternate)) 0 ≡ 5 + cond (is_some t) (2 + alternates_count g.alternate) 0
    toned None = refl
    toned (Some t) = omega (arith, length-alternates g.alternate)

pub all_placed : (p : Panel) (y : Places) → Placed p y
    → y.count ≡ 8 + second_colr_count p.colour.cicp p.colour.icc + irot_count p.metadata.orientation + imir_count p.metadata.orientation + cond (is_some p.metadata.light) 1 0 + clap_count p.visible + gain_property_count p.gain
all_placed p y h =
    omega (
      arith,
      h.count,
      in_all p,
      length-second_colr p.colour.cicp p.colour.icc,
      length-optional "irot" (irot_payload (irot_steps p.metadata.orientation)),
      length-optional "imir" (imir_payload (imir_axis p.metadata.orientation)),
      length-clli p.metadata.light,
      length-clap p.dims p.visible,
      gain_all p.gain,
    )
