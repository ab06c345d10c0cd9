-- What it says of a panel that no check holds; what checks 22 and 8 pass, and when 1, 22, 8 and 4 are answered; and check 4 in each form.
use mathlib.Core.Path.{◌≡◌, refl, sym, ap, ◌∙◌}
use mathlib.Core.Bool.{true, false, ◌||◌}
use Rattle.std.specs.Prelude.{Option, None, Some}
use Prim.Native.Nat.{ℕ, ◌*◌, ◌^◌, ◌≤◌, ◌<◌}
use native.Mathlib.Omega.{arith}
use lib.Dec.{ltb}
use lib.ListN.{length}
use borrow.Author.Tests.{ltb-true, lt-ltb}
use Rattle.octets.specs.Numbers.{total}
use Rattle.octets.proofs.Tests.{or_absorbs}
use Rattle.panel.specs.Panel.{Panel}
use Rattle.panel.specs.Form.{Form, ordinary, wide}
use Rattle.panel.specs.Widths.{Of}
use Rattle.panel.specs.declared.GridDims.{GridDims}
use Rattle.panel.specs.declared.Shape.{Shape}
use Rattle.panel.specs.declared.VisibleSize.{VisibleSize}
use Rattle.heif.specs.Items.{shape, last_id, Even}
use Rattle.heif.specs.File.{file}
use Rattle.heif.specs.Refusal.{bad_grid, bad_part, bad_visible, seen, bad_axis, bad_cover, bad_counts, bad_sum, bad_items, too_long, refusal}

-- along one axis: something is visible, no more than is decoded, which fits in 32 bits with a sign
pub record Part (s d : ℕ) : Type 0 where
  pub some : 1 ≤ s
  pub inside : s ≤ d
  pub short : d < 2 ^ 31

-- of a visible size, along both
pub record Visible (d : GridDims) (v : VisibleSize) : Type 0 where
  pub width : Part v.w d.tile_w
  pub height : Part v.h d.tile_h

-- along one axis: no size is 0, and n tiles of a size are at least the full size
pub record Covers (n t f : ℕ) : Type 0 where
  pub tile : 1 ≤ t
  pub full : 1 ≤ f
  pub reach : f ≤ n * t

pub record Accepted (f : Form) (p : Panel) : Type 0 where
  pub rows : 1 ≤ p.dims.rows
  pub rows_most : p.dims.rows ≤ 256
  pub cols : 1 ≤ p.dims.cols
  pub cols_most : p.dims.cols ≤ 256
  pub visible : Of (Visible p.dims) p.visible
  pub width : Covers p.dims.cols (seen p.dims p.visible).w p.dims.full_w
  pub height : Covers p.dims.rows (seen p.dims p.visible).h p.dims.full_h
  pub count : (shape p).tiles ≡ p.dims.rows * p.dims.cols
  pub alpha_count : length p.alpha.lengths ≡ p.dims.rows * p.dims.cols
  pub sum : total p.tiles.lengths ≡ length p.tiles.bytes
  pub alpha_sum : total p.alpha.lengths ≡ length p.alpha.bytes
  pub last : last_id (shape p) < 2 ^ (8 * f.id)
  pub few : (shape p).tiles ≤ 65535
  pub size : length (file f p) < 2 ^ 32

-- check 22 along an axis passes what can be visible of a tile, and nothing else
pub part_passes : (s d : ℕ) → Part s d → bad_part s d ≡ false
part_passes s d c = grind (arith, c.some, c.inside, c.short)

pub passed_part : (s d : ℕ) → bad_part s d ≡ false → Part s d
passed_part s d e = record { some = grind (arith, e); inside = grind (arith, e); short = grind (arith, e) }

visible_parts : (d : GridDims) (v : Option VisibleSize) → bad_visible d v ≡ false → Of (Visible d) v
visible_parts d None e = tt
visible_parts d (Some v) e = record { width = passed_part v.w d.tile_w (grind (arith, e)); height = passed_part v.h d.tile_h (grind (arith, e)) }

visible_passes : (d : GridDims) (v : Option VisibleSize) → Of (Visible d) v → bad_visible d v ≡ false
visible_passes d None h = refl
visible_passes d (Some v) h = rw (part_passes v.w d.tile_w h.width, part_passes v.h d.tile_h h.height) refl

-- check 8 along an axis passes what is covered, and nothing else
pub covered : (n t f : ℕ) → Covers n t f → bad_axis n t f ≡ false
covered n t f c = grind (arith, c.tile, c.full, c.reach)

pub covers : (n t f : ℕ) → bad_axis n t f ≡ false → Covers n t f
covers n t f e = record { tile = grind (arith, e); full = grind (arith, e); reach = grind (arith, e) }

-- which of several is answered: 1 before all else, then 22, then 8
pub side_first : (f : Form) (p : Panel) → bad_grid p.dims.rows p.dims.cols ≡ true → refusal f p ≡ 1
unfolding refusal
side_first f p e = rw e

pub visible_next : (f : Form) (p : Panel) → bad_grid p.dims.rows p.dims.cols ≡ false → bad_visible p.dims p.visible ≡ true → refusal f p ≡ 22
unfolding refusal
visible_next f p e v = rw (e, v)

pub cover_next : (f : Form) (p : Panel) → bad_grid p.dims.rows p.dims.cols ≡ false → bad_visible p.dims p.visible ≡ false
    → bad_cover p.dims (seen p.dims p.visible) ≡ true → refusal f p ≡ 8
unfolding refusal
cover_next f p e v c = rw (e, v, c)

pub items_next : (f : Form) (p : Panel) → bad_grid p.dims.rows p.dims.cols ≡ false → bad_visible p.dims p.visible ≡ false
    → bad_cover p.dims (seen p.dims p.visible) ≡ false → bad_counts (p.dims.rows * p.dims.cols) (length p.tiles.lengths) (length p.alpha.lengths) ≡ false
    → (bad_sum p.tiles || bad_sum p.alpha) ≡ false → bad_items f (shape p) ≡ true → refusal f p ≡ 4
unfolding refusal
items_next f p e v c n s i = rw (e, v, c, n, s, i)

pub accepted : (f : Form) (p : Panel) → refusal f p ≡ 0 → Accepted f p
unfolding refusal
accepted f p e =
    record {
      rows = grind (arith, e);
      rows_most = grind (arith, e);
      cols = grind (arith, e);
      cols_most = grind (arith, e);
      visible = visible_parts p.dims p.visible (grind (arith, e));
      width = covers p.dims.cols (seen p.dims p.visible).w p.dims.full_w (grind (arith, e));
      height = covers p.dims.rows (seen p.dims p.visible).h p.dims.full_h (grind (arith, e));
      count = grind (arith, e);
      alpha_count = grind (arith, e);
      sum = grind (arith, e);
      alpha_sum = grind (arith, e);
      last = grind (arith, e);
      few = grind (arith, e);
      size = grind (arith, e);
    }

-- and nothing else is asked of a panel
pub accepts : (f : Form) (p : Panel) → Accepted f p → refusal f p ≡ 0
unfolding refusal
accepts f p a =
    let grid : bad_grid p.dims.rows p.dims.cols ≡ false = grind (arith, a.rows, a.rows_most, a.cols, a.cols_most) in
    let cover : bad_cover p.dims (seen p.dims p.visible) ≡ false = rw (covered _ _ _ a.width, covered _ _ _ a.height) refl in
    let counts : bad_counts (p.dims.rows * p.dims.cols) (length p.tiles.lengths) (length p.alpha.lengths) ≡ false = grind (arith, a.count, a.alpha_count) in
    let sums : (bad_sum p.tiles || bad_sum p.alpha) ≡ false = grind (arith, a.sum, a.alpha_sum) in
    let items : bad_items f (shape p) ≡ false = grind (arith, a.last, a.few) in
    let short : too_long (length (file f p)) ≡ false = grind (arith, a.size) in
    rw (grid, visible_passes p.dims p.visible a.visible, cover, counts, sums, items, short)

-- the visible size is what covers the picture, and where there is none the tiles themselves
pub seen_covers : (f : Form) (p : Panel) (v : VisibleSize) → refusal f p ≡ 0 → p.visible ≡ Some v
    → Covers p.dims.cols v.w p.dims.full_w × Covers p.dims.rows v.h p.dims.full_h
seen_covers f p v a e = let h = accepted f p a in (rw e at h.width, rw e at h.height)

pub tiles_cover : (f : Form) (p : Panel) → refusal f p ≡ 0 → p.visible ≡ None
    → Covers p.dims.cols p.dims.tile_w p.dims.full_w × Covers p.dims.rows p.dims.tile_h p.dims.full_h
tiles_cover f p a e = let h = accepted f p a in (rw e at h.width, rw e at h.height)

pub even-accepted : (f : Form) (p : Panel) → Accepted f p → Even p
even-accepted f p a = record { counts = a.alpha_count ∙ sym a.count; sum = a.sum; alpha_sum = a.alpha_sum }

-- in the ordinary form check 4 is whether the last id exceeds 65,535: more than 65,535 tiles have a last id above that
pub ordinary-items : (s : Shape) → bad_items ordinary s ≡ ltb 65535 (last_id s)
ordinary-items s = or_absorbs _ _ (λ e. lt-ltb 65535 (last_id s) (omega (arith, ltb-true 65535 s.tiles e)))

-- in the wide form it is whether the tiles exceed 65,535: so many have a last id far below what 32 bits hold
pub wide-items : (s : Shape) → bad_items wide s ≡ ltb 65535 s.tiles
wide-items s = grind arith

-- where check 2 has passed these are rows × columns
pub wide_items_of : (p : Panel) → bad_counts (p.dims.rows * p.dims.cols) (length p.tiles.lengths) (length p.alpha.lengths) ≡ false
    → bad_items wide (shape p) ≡ ltb 65535 (p.dims.rows * p.dims.cols)
wide_items_of p e = let n : (shape p).tiles ≡ p.dims.rows * p.dims.cols = grind (arith, e) in wide-items (shape p) ∙ ap (ltb 65535) n
