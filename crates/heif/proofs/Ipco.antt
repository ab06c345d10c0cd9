-- The boxes of slots, one list of them behind another; the depths that they tell; which byte parts ipco is made from; and the length of
-- ipco: how long the boxes of each role are.
use mathlib.Core.Path.{◌≡◌, refl, sym, ap, ◌∙◌}
use Rattle.std.specs.Prelude.{Option, None, Some, max, option_map}
use mathlib.Core.List.{List, [], ◌∷◌, append-nil, append_assoc}
use Prim.Native.Nat.{ℕ}
use native.Mathlib.Omega.{arith}
use lib.ListN.{length}
use Rattle.octets.specs.Numbers.{◌‖◌}
use Rattle.octets.specs.Boxes.{Box, box, boxes}
use Rattle.octets.proofs.Boxes.{body_at, length_none, length-boxes, length-boxes-append}
use Rattle.panel.specs.Types.{bits}
use Rattle.panel.specs.Panel.{Colour, Gain, Panel}
use Rattle.heif.specs.Ispe.{ispe, tone_ispe}
use Rattle.heif.specs.Pixi.{pixi}
use Rattle.heif.specs.Ipco.{Role, colour_slots, alpha_slots, option_slots, image_slots, tone_slots, gain_slots, held, properties, ipco, tone_properties_size, gain_properties_size, ipco_size}
use Rattle.heif.proofs.Colr.{length-first_colr, length-boxes-second_colr, length-boxes-alternates}
use Rattle.heif.proofs.Irot.{length-boxes-irot}
use Rattle.heif.proofs.Imir.{length-boxes-imir}
use Rattle.heif.proofs.Clli.{length-boxes-clli}
use Rattle.heif.proofs.Clap.{length-boxes-clap}
use Rattle.heif.proofs.Pixi.{pixi_inj}

pub held-append : (l m : List (Role × List Box)) → held (l ‖ m) ≡ held l ‖ held m
held-append [] m = refl
held-append (s ∷ l) m = ap (λ (r : List Box). s.1 ‖ r) (held-append l m) ∙ sym (append_assoc s.1 (held l) (held m))

-- the colour picture's pixi is the fifth property, the alpha picture's the seventh
pub depths_told : (p q : Panel) → properties p ≡ properties q → (p.depth ≡ q.depth) × (p.alpha_depth ≡ q.alpha_depth)
unfolding body_at
depths_told p q e = (pixi_inj 2 p.depth q.depth (ap (body_at 4) e), pixi_inj 0 p.alpha_depth q.alpha_depth (ap (body_at 6) e))

-- ---- which byte parts it is made from: both records, the gain image's, and the profiles

-- bytes that are there, with none of them
abbrev emptied : Option (List ℕ) → Option (List ℕ)
emptied bytes = option_map (λ _. []) bytes

abbrev pub gain_props : Gain → Gain
gain_props g =
    record { hvcc = g.hvcc; sample = []; width = g.width; height = g.height; depth = g.depth; cicp = g.cicp; xmp = []; tone = emptied g.tone; alternate = g.alternate }

-- a panel with these parts, and with nothing in the others
abbrev pub props : Panel → Panel
props p =
    record {
      dims = p.dims;
      visible = p.visible;
      depth = p.depth;
      alpha_depth = p.alpha_depth;
      tiles = record { hvcc = p.tiles.hvcc; lengths = []; bytes = [] };
      alpha = record { hvcc = p.alpha.hvcc; lengths = []; bytes = [] };
      colour = p.colour;
      metadata = record { orientation = p.metadata.orientation; light = p.metadata.light; exif = emptied p.metadata.exif };
      gain = option_map gain_props p.gain;
    }

-- whatever the bytes of a tone map
same-tone_slots : (size depth : Box) (t : Option (List ℕ)) (a : Option Colour) → tone_slots size depth t a ≡ tone_slots size depth (emptied t) a
same-tone_slots size depth None a = refl
same-tone_slots size depth (Some t) a = refl

same-gain_slots : (size depth : Box) (g : Option Gain) → gain_slots size depth g ≡ gain_slots size depth (option_map gain_props g)
same-gain_slots size depth None = refl
same-gain_slots size depth (Some g) =
    ap (λ (l : List (Role × List Box)). image_slots g.hvcc g.width g.height g.depth g.cicp ‖ l) (same-tone_slots size depth g.tone g.alternate)

-- ipco is that of a panel with these parts alone: no sample, Exif, XMP or tone map has a byte in it
pub ipco_parts : (p : Panel) → ipco p ≡ ipco (props p)
ipco_parts p =
    let gain = same-gain_slots (tone_ispe p.dims p.metadata.orientation) (pixi 3 (max (bits p.depth) 10)) p.gain in
    ap
    (λ (g : List (Role × List Box)).
    box
    "ipco"
    (boxes
    (held
    (colour_slots p.dims p.depth p.tiles.hvcc p.colour
    ‖ alpha_slots p.alpha_depth p.alpha.hvcc
    ‖ option_slots p.dims p.visible p.colour p.metadata.orientation p.metadata.light
    ‖ g))))
    gain

-- ---- how many bytes

-- whatever the size and the depth that the tone map's properties state
module _ (w h depth : ℕ) where
  length-boxes-tone_slots : (t : Option (List ℕ)) (a : Option Colour)
      → length (boxes (held (tone_slots (ispe w h) (pixi 3 depth) t a))) ≡ tone_properties_size t a
  length-boxes-tone_slots None a = length_none
  length-boxes-tone_slots (Some t) a = simp (length-boxes, append-nil, length-boxes-alternates) (omega arith)

  length-boxes-gain_slots : (g : Option Gain) → length (boxes (held (gain_slots (ispe w h) (pixi 3 depth) g))) ≡ gain_properties_size g
  length-boxes-gain_slots None = length_none
  length-boxes-gain_slots (Some g) = simp (length-boxes, length-boxes-tone_slots) (omega arith)

pub length-ipco : (p : Panel) → length (ipco p).body ≡ ipco_size p
length-ipco p =
    simp
    (length-boxes, length-boxes-append, length-boxes-second_colr, length-boxes-irot, length-boxes-imir, length-boxes-clli, length-boxes-clap, length-boxes-gain_slots)
    (omega (arith, length-first_colr p.colour.cicp p.colour.icc))
