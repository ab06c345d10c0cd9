-- What a sheet can be refused with, and that it is not 22, 2, 3, 4 or 5: of the panel that it says, which has no visible size, only a side
-- of the grid, a picture that its tiles don't cover, or the room can be refused.
use mathlib.Core.Path.{◌≡◌, refl, sym, ap, ◌∙◌}
use mathlib.Core.Bool.{Bool, true, false, ◌||◌, cond}
use Rattle.std.specs.Prelude.{Option, None, Some, is_some}
use mathlib.Core.Logic.{◌⊎◌}
use mathlib.Core.List.{List, [], ◌∷◌}
use Prim.Native.Nat.{ℕ, ◌*◌, ◌^◌, ◌≤◌, ◌<◌}
use native.Mathlib.Omega.{arith}
use lib.Dec.{ltb}
use lib.ListN.{length}
use borrow.Author.Tests.{le-ltb, ltb-false}
use Rattle.std.proofs.lemmas.List.Sums.{sum_by-cons, sum_by-append}
use Rattle.octets.specs.Numbers.{◌‖◌}
use Rattle.panel.specs.Panel.{Colour, Gain, Panel}
use Rattle.panel.specs.Form.{ordinary}
use Rattle.panel.specs.Parts.{given}
use Rattle.panel.specs.Widths.{Of}
use Rattle.panel.specs.Outcome.{refused, outcome}
use Rattle.panel.specs.declared.VisibleSize.{VisibleSize}
use Rattle.panel.specs.declared.color.Cicp.{Cicp}
use Rattle.heif.specs.Items.{shape, last_id, Even}
use Rattle.heif.specs.File.{file}
use Rattle.heif.specs.Refusal.{bad_grid, bad_visible, seen, bad_cover, bad_counts, bad_sum, bad_items, too_long, refusal_in}
use Rattle.heif.specs.Answer.{write_answer}
use Rattle.heif.proofs.Refusal.{ordinary-items}
use Rattle.heif_length.specs.Extras.{Extra, large_picture, irot, imir, light_level, gain_map, tone_map, alternate_cicp, ◌has◌}
use Rattle.heif_length.specs.Shares.{share, shares, meetings}
use Rattle.heif_length.proofs.Extras.{visible_extras, exif_extras, colour_extras, profile_extras, alternate_extras, tone_extras, gain_extras}
use Rattle.heif_length.proofs.Extras.{extras, extras_listed}
use Rattle.heif_length.proofs.Shares.{length_as_sum}
use Rattle.sheet_fields.specs.Read.{Read, got, stop}
use Rattle.sheet.specs.Sheet.{fields, sheet}
use Rattle.sheet.specs.Answer.{answer_of, sheet_answer}
use Rattle.sheet_bytes.proofs.Yields.{Short, ShortColour, ShortGain, Bounded, a-panel}

-- ---- the length of the file, by the shares of what the panel has

cond_small : (b : Bool) (n : ℕ) → cond b n 0 ≤ n
cond_small b n = grind arith

given_small : (b : Bool) (e : Extra) → shares (given b (e ∷ [])) ≤ share e
given_small b e = grind arith

no_share : (n : ℕ) (v : Option VisibleSize) → v ≡ None → shares (visible_extras n v) ≡ 0
no_share n v e = ap (λ (w : Option VisibleSize). shares (visible_extras n w)) e

exif_small : (o : Option (List ℕ)) → Of Short o → shares (exif_extras o) ≤ 12343
exif_small o h = grind arith

colour_small : (c : Option Cicp) (i : Option (List ℕ)) → Of Short i → shares (colour_extras c i) ≤ 12301
colour_small c i h = grind arith

profile_small : (i : Option (List ℕ)) → Of Short i → shares (profile_extras i) ≤ 12301
profile_small i h = grind arith

alternate_small : (a : Option Colour) → Of ShortColour a → shares (alternate_extras a) ≤ 12321
alternate_small None h = omega arith
alternate_small (Some a) h = omega (arith, sum_by-append share (given (is_some a.cicp) (alternate_cicp ∷ [])) (profile_extras a.icc), given_small (is_some a.cicp) alternate_cicp, profile_small a.icc h.icc)

tone_small : (t : Option (List ℕ)) (a : Option Colour) → Of Short t → Of ShortColour a → shares (tone_extras t a) ≤ 24743
tone_small None a h k = omega arith
tone_small (Some t) a h k = omega (arith, sum_by-cons share (tone_map (length t)) (alternate_extras a), h, alternate_small a k)

gain_small : (g : Option Gain) → Of ShortGain g → shares (gain_extras g) ≤ 61850
gain_small None h = omega arith
gain_small (Some g) h = omega (arith, sum_by-cons share (gain_map (length g.hvcc) (length g.sample) (length g.xmp)) (tone_extras g.tone g.alternate), h.hvcc, h.sample, h.xmp, tone_small g.tone g.alternate h.tone h.alternate)

meetings_small : (p : Panel) → meetings p ≤ 6
meetings_small p = grind arith

first_of : (b1 b22 b8 b2 b3 b4 b5 b6 : Bool) → b22 ≡ false → b2 ≡ false → b3 ≡ false → b4 ≡ false → b5 ≡ false
    → ◌≡◌ {A = ℕ} (elim b1 [ true ↦ 1 | false ↦ elim b22 [ true ↦ 22 | false ↦ elim b8 [ true ↦ 8 | false ↦ elim b2 [ true ↦ 2 | false ↦ elim b3 [ true ↦ 3 | false ↦ elim b4 [ true ↦ 4 | false ↦ elim b5 [ true ↦ 5 | false ↦ elim b6 [ true ↦ 6 | false ↦ 0 ] ] ] ] ] ] ] ]) (cond b1 1 (cond b8 8 (cond b6 6 0)))
first_of b1 b22 b8 b2 b3 b4 b5 b6 e22 e2 e3 e4 e5 = grind arith

-- by the checks that can hold of a panel that a sheet says
abbrev by_three : Panel → ℕ → ℕ
by_three p room = cond (bad_grid p.dims.rows p.dims.cols) 1 (cond (bad_cover p.dims (seen p.dims p.visible)) 8 (cond (ltb room (length (file ordinary p))) 6 0))

module _ (p : Panel) (b : Bounded p) where
  even : Even p
  even =
      record {
        counts = b.pictures.alpha.count ∙ sym b.pictures.colour.count;
        sum = b.pictures.colour.sum;
        alpha_sum = b.pictures.alpha.sum;
      }

  extras_small : shares (extras p) ≤ 87000
  extras_small =
      let w = given (p has large_picture) (large_picture ∷ []) in
      let o = given (p has irot) (irot ∷ []) in
      let m = given (p has imir) (imir ∷ []) in
      let l = given (p has light_level) (light_level ∷ []) in
      let v = visible_extras (shape p).tiles p.visible in
      let x = exif_extras p.metadata.exif in
      let c = colour_extras p.colour.cicp p.colour.icc in
      let g = gain_extras p.gain in
      omega (
        arith,
        sum_by-append share w (o ‖ m ‖ l ‖ v ‖ x ‖ c ‖ g),
        sum_by-append share o (m ‖ l ‖ v ‖ x ‖ c ‖ g),
        sum_by-append share m (l ‖ v ‖ x ‖ c ‖ g),
        sum_by-append share l (v ‖ x ‖ c ‖ g),
        sum_by-append share v (x ‖ c ‖ g),
        sum_by-append share x (c ‖ g),
        sum_by-append share c g,
        given_small (p has large_picture) large_picture,
        given_small (p has irot) irot,
        given_small (p has imir) imir,
        given_small (p has light_level) light_level,
        no_share (shape p).tiles p.visible b.visible,
        exif_small p.metadata.exif b.metadata.exif,
        colour_small p.colour.cicp p.colour.icc b.colour.icc,
        gain_small p.gain b.gain,
      )

  file_small : length (file ordinary p) ≤ 4294967295
  file_small =
      omega (
        arith,
        length_as_sum p (extras p) even (extras_listed p),
        extras_small,
        meetings_small p,
        b.pictures.tiles,
        b.pictures.colour.count,
        b.pictures.colour_hvcc,
        b.pictures.alpha_hvcc,
        b.pictures.colour_bytes,
        b.pictures.alpha_bytes,
      )

  -- ---- the checks

  id_small : last_id (shape p) < 2 ^ 16
  id_small =
      omega (arith, b.pictures.tiles, b.pictures.colour.count, cond_small (shape p).exif 1, cond_small (shape p).gain 2, cond_small (shape p).tone 1)

  -- only 1, 8 and 6 can hold
  pub only : (room : ℕ) → refusal_in ordinary room p ≡ by_three p room
  unfolding refusal_in
  only room =
      let c = b.pictures.colour in
      let a = b.pictures.alpha in
      let e22 : bad_visible p.dims p.visible ≡ false = ap (bad_visible p.dims) b.visible in
      let e2 : bad_counts (p.dims.rows * p.dims.cols) (length p.tiles.lengths) (length p.alpha.lengths) ≡ false = grind (arith, c.count, a.count) in
      let e3 : (bad_sum p.tiles || bad_sum p.alpha) ≡ false = grind (arith, c.sum, a.sum) in
      let e4 : bad_items ordinary (shape p) ≡ false = ordinary-items (shape p) ∙ le-ltb 65535 (last_id (shape p)) (omega (arith, id_small)) in
      let e5 : too_long (length (file ordinary p)) ≡ false = le-ltb _ _ file_small in
      first_of (bad_grid p.dims.rows p.dims.cols) _ (bad_cover p.dims (seen p.dims p.visible)) _ _ _ _ (ltb room (length (file ordinary p))) e22 e2 e3 e4 e5

-- ---- the sheet

module _ (s rest : List ℕ) (p : Panel) (e : sheet s ≡ got p rest) where
  held : Bounded p
  unfolding sheet
  held = go (ltb 12288 (length s)) refl e
    where
      go : (b : Bool) → ltb 12288 (length s) ≡ b → cond b (stop 15) (fields s) ≡ got p rest → Bounded p
      go true h e = cc
      go false h e = (a-panel.yields s rest p (ltb-false 12288 (length s) h) e).0

  -- the panel that a sheet says is refused by 1, by 8, by 6, or not at all
  said-only : (room : ℕ) → refusal_in ordinary room p ≡ by_three p room
  said-only = only p held

  -- and has no visible size
  pub unseen : p.visible ≡ None
  unseen = held.visible

stops_late : (s : List ℕ) (k : ℕ) → sheet s ≡ stop k → (11 ≤ k) × (k ≤ 15)
unfolding sheet
stops_late s k e = grind (arith, a-panel.stops)

-- what a sheet can be refused with: 1, 8 or 6 for the panel that it says, 11 to 15 for itself
pub Answered : ℕ → Type 0
Answered k = (k ≡ 1) ⊎ ((k ≡ 8) ⊎ ((k ≡ 6) ⊎ ((11 ≤ k) × (k ≤ 15))))

of_panel : (b1 b8 b6 : Bool) (size k : ℕ) → outcome (cond b1 1 (cond b8 8 (cond b6 6 0))) size ≡ refused k → Answered k
unfolding Answered
of_panel b1 b8 b6 size k e = grind arith

pub answered : (s : List ℕ) (room k : ℕ) → sheet_answer s room ≡ refused k → Answered k
unfolding sheet_answer write_answer Answered
answered s room k e = go (sheet s) refl e
  where
    go : (r : Read Panel) → sheet s ≡ r → answer_of r room ≡ refused k → Answered k
    go (got p rest) h e = of_panel (bad_grid p.dims.rows p.dims.cols) (bad_cover p.dims (seen p.dims p.visible)) (ltb room (length (file ordinary p))) (length (file ordinary p)) k (ap (λ n. outcome n (length (file ordinary p))) (sym (said-only s rest p h room)) ∙ e)
    go (stop j) h e = let v : j ≡ k = cc in let l = stops_late s j h in grind (arith, v, l)

-- so no sheet is answered 2, 3, 4 or 5
pub never : (s : List ℕ) (room k : ℕ) → sheet_answer s room ≡ refused k → 2 ≤ k → k ≤ 5 → ⊥
unfolding Answered
never s room k e l m = grind (arith, answered s room k e)

-- nor 22
pub never_visible : (s : List ℕ) (room : ℕ) → sheet_answer s room ≡ refused 22 → ⊥
unfolding Answered
never_visible s room e = grind (arith, answered s room 22 e)
