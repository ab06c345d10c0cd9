-- By the standard's meaning, what a file shows of a tile begins at the tile's first column and row and is as large as the visible size.
use mathlib.Core.Path.{◌≡◌, refl, ap, ◌∙◌}
use Rattle.std.specs.Prelude.{Option, Some, ℤ, pos, ◌-ℤ◌}
use Rattle.std.specs.Int.{cast_signed, cast_unsigned}
use Rattle.std.proofs.lemmas.Int.{ints, to_z-of_z}
use mathlib.Core.List.{List, [], ◌∷◌, append_assoc}
use Prim.Native.Nat.{ℕ, max, ◌+◌}
use native.Mathlib.Omega.{arith}
use mir.Syntax.{w32}
use mir.Val.{SFits}
use lib.ListN.{length, take, length-append, get_or}
use Rattle.octets.specs.Numbers.{◌‖◌, be, value}
use Rattle.octets.specs.Boxes.{Box, box, optional}
use Rattle.octets.proofs.Numbers.{value-be}
use Rattle.panel.specs.Panel.{Panel}
use Rattle.panel.specs.Form.{Form}
use Rattle.panel.specs.declared.GridDims.{GridDims}
use Rattle.panel.specs.declared.VisibleSize.{VisibleSize}
use Rattle.panel.specs.Types.{bits, irot_steps, imir_axis}
use Rattle.heif.specs.Clap.{difference, clap_body, clap_payload}
use Rattle.heif.specs.Colr.{second_colr}
use Rattle.heif.specs.Irot.{irot_payload}
use Rattle.heif.specs.Imir.{imir_payload}
use Rattle.heif.specs.Clli.{clli_payload}
use Rattle.heif.specs.Ispe.{ispe, tone_ispe}
use Rattle.heif.specs.Pixi.{pixi}
use Rattle.heif.specs.Ipco
use Rattle.heif.specs.Ipco.{gain_slots, held, slots, properties}
use Rattle.heif.specs.Ipma.{positions, essential, colour_tile_list, alpha_tile_list}
use Rattle.heif.specs.Items.{ids_from}
use Rattle.heif.specs.Aperture.{Fraction, whole, ◌is◌, clean_width, clean_height, horizontal_offset, vertical_offset, first, last}
use Rattle.heif.specs.Aperture.{first_column, last_column, first_row, last_row}
use Rattle.heif.specs.Refusal.{refusal}
use Rattle.heif.proofs.Refusal.{Part, Visible, accepted}

-- along one axis, s of d pixels visible: the clean size, and the offset of its centre
abbrev clean : ℕ → Fraction
clean s = record { numerator = pos s; denominator = 1 }

abbrev halves : ℤ → Fraction
halves z = record { numerator = z; denominator = 2 }

abbrev offset : ℕ → ℕ → Fraction
offset s d = halves (pos s -ℤ pos d)

-- whatever fractions are these
module _ (s d : ℕ) {a b : Fraction} (clean_is : a ≡ clean s) (offset_is : b ≡ offset s d) where
  first_seen : first d a b is whole (pos 0)
  first_seen = rw (clean_is, offset_is) (record { defined = omega arith; defined_too = omega arith; same = omega (arith, ints) })

  last_seen : last d a b is whole (pos s -ℤ pos 1)
  last_seen = rw (clean_is, offset_is) (record { defined = omega arith; defined_too = omega arith; same = omega (arith, ints) })

-- what is written is read
module _ (s d : ℕ) (p : Part s d) where
  clean_read : value (be 4 s) ≡ s
  clean_read = value-be 4 s (omega (arith, p.inside, p.short))

  offset_read : cast_signed w32 (value (be 4 (cast_unsigned w32 (difference s d)))) ≡ pos s -ℤ pos d
  offset_read =
      let fits : SFits w32 (difference s d) = record { sfits = grind (arith, ints, p.inside, p.short) } in
      ap (cast_signed w32) (value-be 4 (cast_unsigned w32 (difference s d)) (omega (arith, ints, p.inside, p.short)))
      ∙ to_z-of_z w32 _ fits
      ∙ omega (arith, ints)

-- what the body's numbers say
module _ (d : GridDims) (v : VisibleSize) (s : Visible d v) where
  width_told : clean_width (clap_body d v) ≡ clean v.w
  width_told = ap clean (clean_read v.w d.tile_w s.width)

  height_told : clean_height (clap_body d v) ≡ clean v.h
  height_told = ap clean (clean_read v.h d.tile_h s.height)

  across_told : horizontal_offset (clap_body d v) ≡ offset v.w d.tile_w
  across_told = ap halves (offset_read v.w d.tile_w s.width)

  down_told : vertical_offset (clap_body d v) ≡ offset v.h d.tile_h
  down_told = ap halves (offset_read v.h d.tile_h s.height)

-- the properties before clap, the first eight of which are always there, and those behind it
abbrev ahead : Panel → List Box
ahead p =
    take 8 (properties p)
    ‖ optional "colr" (second_colr p.colour.cicp p.colour.icc)
    ‖ optional "irot" (irot_payload (irot_steps p.metadata.orientation))
    ‖ optional "imir" (imir_payload (imir_axis p.metadata.orientation))
    ‖ optional "clli" (clli_payload p.metadata.light)

abbrev behind : Panel → List Box
behind p = held (gain_slots (tone_ispe p.dims p.metadata.orientation) (pixi 3 (max (bits p.depth) 10)) p.gain)

parted : (p : Panel) → properties p ≡ ahead p ‖ optional "clap" (clap_payload p.dims p.visible) ‖ behind p
parted p = simp append_assoc

-- clap stands right behind them
placed : (p : Panel) → positions 1 (slots p) Ipco.clap ≡ ids_from (1 + length (ahead p)) (length (optional "clap" (clap_payload p.dims p.visible)))
placed p =
    let n : 9 + length (optional "colr" (second_colr p.colour.cicp p.colour.icc))
    + length (optional "irot" (irot_payload (irot_steps p.metadata.orientation)))
    + length (optional "imir" (imir_payload (imir_axis p.metadata.orientation)))
    + length (optional "clli" (clli_payload p.metadata.light)) ≡ 1 + length (ahead p) = simp length-append (omega arith) in
    ap (λ (k : ℕ). ids_from k (length (optional "clap" (clap_payload p.dims p.visible)))) n

-- the panel's clap among its properties, behind so many; each tile of either picture names it last, as essential, and the second property,
-- which is the decoded size; and what of a picture of that size the clap shows
pub record Shows (p : Panel) (v : VisibleSize) : Type 0 where
  pub body : List ℕ
  pub before : List Box
  pub after : List Box
  pub there : properties p ≡ before ‖ box "clap" body ∷ after
  pub size : get_or (properties p) 1 (box "" []) ≡ ispe p.dims.tile_w p.dims.tile_h
  pub colour_tile : colour_tile_list (positions 1 (slots p)) ≡ 0x81 ∷ 0x82 ∷ 0x84 ∷ (128 + (1 + length before)) ∷ []
  pub alpha_tile : alpha_tile_list (positions 1 (slots p)) ≡ 0x86 ∷ 0x82 ∷ (128 + (1 + length before)) ∷ []
  pub left : first_column p.dims.tile_w body is whole (pos 0)
  pub top : first_row p.dims.tile_h body is whole (pos 0)
  pub right : last_column p.dims.tile_w body is whole (pos v.w -ℤ pos 1)
  pub bottom : last_row p.dims.tile_h body is whole (pos v.h -ℤ pos 1)

-- of every accepted panel with a visible size
pub aperture : (f : Form) (p : Panel) (v : VisibleSize) → refusal f p ≡ 0 → p.visible ≡ Some v → Shows p v
aperture f p v a e =
    let s : Visible p.dims v = rw e at (accepted f p a).visible in
    let across = across_told p.dims v s in
    let down = down_told p.dims v s in
    let at_clap : positions 1 (slots p) Ipco.clap ≡ (1 + length (ahead p)) ∷ []
    = placed p ∙ ap (λ (x : Option VisibleSize). ids_from (1 + length (ahead p)) (length (optional "clap" (clap_payload p.dims x)))) e in
    record {
      body = clap_body p.dims v;
      before = ahead p;
      after = behind p;
      size = refl;
      colour_tile = ap (λ (l : List ℕ). 0x81 ∷ 0x82 ∷ 0x84 ∷ essential l) at_clap;
      alpha_tile = ap (λ (l : List ℕ). 0x86 ∷ 0x82 ∷ essential l) at_clap;
      there = parted p ∙ ap (λ (x : Option VisibleSize). ahead p ‖ optional "clap" (clap_payload p.dims x) ‖ behind p) e;
      left = first_seen v.w p.dims.tile_w (width_told p.dims v s) across;
      top = first_seen v.h p.dims.tile_h (height_told p.dims v s) down;
      right = last_seen v.w p.dims.tile_w (width_told p.dims v s) across;
      bottom = last_seen v.h p.dims.tile_h (height_told p.dims v s) down;
    }
