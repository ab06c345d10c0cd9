-- No role has more than two positions, so that no item is associated with more properties than 8 bits count.
use mathlib.Core.Path.{◌≡◌}
use Rattle.std.specs.Prelude.{Option, None, Some, max}
use mathlib.Core.List.{List, [], ◌∷◌}
use Prim.Native.Nat.{ℕ, ◌+◌, ◌≤◌}
use Prim.Native.String.{String}
use native.Mathlib.Omega.{arith}
use lib.ListN.{length}
use Rattle.octets.specs.Numbers.{◌‖◌}
use Rattle.octets.specs.Boxes.{Box, optional}
use Rattle.panel.specs.Panel.{Colour, Gain, Panel}
use Rattle.panel.specs.Types.{bits, irot_steps, imir_axis}
use Rattle.panel.specs.declared.GridDims.{GridDims}
use Rattle.panel.specs.declared.VisibleSize.{VisibleSize}
use Rattle.panel.specs.declared.metadata.ContentLightLevel.{ContentLightLevel}
use Rattle.panel.specs.declared.metadata.Orientation.{Orientation}
use Rattle.heif.specs.Items.{ids_from}
use Rattle.heif.specs.Ipco
use Rattle.heif.specs.Ispe.{tone_ispe}
use Rattle.heif.specs.Pixi.{pixi}
use Rattle.heif.specs.Colr.{second_colr}
use Rattle.heif.specs.Irot.{irot_payload}
use Rattle.heif.specs.Imir.{imir_payload}
use Rattle.heif.specs.Clli.{clli_payload}
use Rattle.heif.specs.Clap.{clap_payload}
use Rattle.heif.specs.Ipco.{Role, option_slots, tone_slots, gain_slots, slots}
use Rattle.heif.specs.Ipma.{positions}
use Rattle.heif.proofs.Items.{length-ids_from}
use Rattle.heif.proofs.Colr.{length-alternates}

-- each slot holds at most two boxes
abbrev Few : List (Role × List Box) → Type 0
Few [] = Unit {0}
Few (s ∷ l) = (length s.1 ≤ 2) × Few l

few_at : (at : ℕ) (l : List (Role × List Box)) (r : Role) → Few l → length (positions at l r) ≤ 2
few_at at [] r f = omega arith
few_at at (s ∷ l) r f = go (Ipco.Role-discrete r s.0) (few_at (at + length s.1) l r f.1)
  where
    go : (d : Dec (r ≡ s.0)) → length (positions (at + length s.1) l r) ≤ 2
        → length {A = ℕ} (elim d [ yes e ↦ ids_from at (length s.1) | no e ↦ positions (at + length s.1) l r ]) ≤ 2
    go (yes e) later = omega (arith, length-ids_from at (length s.1), f.0)
    go (no e) later = later

-- those of the tone map, and of the gain map
few-tone : (size depth : Box) (t : Option (List ℕ)) (a : Option Colour) → Few (tone_slots size depth t a)
few-tone size depth None a = tt
few-tone size depth (Some t) a = (omega arith, (omega arith, (grind (arith, length-alternates a), tt)))

few-gain : (size depth : Box) (g : Option Gain) → Few (gain_slots size depth g)
few-gain size depth None = tt
few-gain size depth (Some g) = (omega arith, (omega arith, (omega arith, (omega arith, (omega arith, few-tone size depth g.tone g.alternate)))))

-- one that may be absent
few-optional : (s : String) (a : Option (List ℕ)) → length (optional s a) ≤ 2
few-optional s None = omega arith
few-optional s (Some x) = omega arith

few-options : (d : GridDims) (v : Option VisibleSize) (c : Colour) (o : Orientation) (light : Option ContentLightLevel) (l : List (Role × List Box))
    → Few l → Few (option_slots d v c o light ‖ l)
few-options d v c o light l more = (
  few-optional "colr" (second_colr c.cicp c.icc),
  (
    few-optional "irot" (irot_payload (irot_steps o)),
    (few-optional "imir" (imir_payload (imir_axis o)), (few-optional "clli" (clli_payload light), (few-optional "clap" (clap_payload d v), more))),
  ),
)

pub few : (p : Panel) (r : Role) → length (positions 1 (slots p) r) ≤ 2
few p r =
    let size = tone_ispe p.dims p.metadata.orientation in
    let depth = pixi 3 (max (bits p.depth) 10) in
    let options = few-options p.dims p.visible p.colour p.metadata.orientation p.metadata.light (gain_slots size depth p.gain) (few-gain size depth p.gain) in
    few_at 1 (slots p) r (omega arith, (omega arith, (omega arith, (omega arith, (omega arith, (omega arith, (omega arith, (omega arith, options))))))))
