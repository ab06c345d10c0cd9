-- Trials of the wide form with too many tiles for their files to be computed: by laws.
use mathlib.Core.Path.{◌≡◌, refl, sym, ◌∙◌}
use mathlib.Core.Bool.{true, false, ◌||◌}
use Prim.Native.Nat.{ℕ, ◌+◌, ◌*◌, ◌^◌, ◌≤◌, ◌<◌}
use native.Mathlib.Omega.{arith}
use borrow.Author.Tests.{lt-ltb}
use lib.ListN.{length, replicate}
use Rattle.std.proofs.lemmas.List.{length-replicate}
use Rattle.std.proofs.lemmas.List.Folds.{sum_by-replicate}
use Rattle.octets.proofs.Lists.{sum_is_total}
use Rattle.octets.specs.Numbers.{total}
use Rattle.panel.specs.Panel.{Panel}
use Rattle.panel.specs.Form.{Form, ordinary, wide}
use Rattle.panel.specs.Outcome.{made, refused}
use Rattle.heif.specs.Items.{shape, last_id, Even}
use Rattle.heif.specs.Idat.{descriptor_size}
use Rattle.heif.specs.File.{file}
use Rattle.heif.specs.Refusal.{bad_grid, bad_cover, bad_counts, bad_sum, bad_items, seen, refusal}
use Rattle.heif.specs.Answer.{length_answer}
use Rattle.heif.proofs.Refusal.{Covers, covered, accepts, items_next, ordinary-items, wide-items}
use Rattle.heif.proofs.File.{length-file}
use Rattle.heif_trials.specs.Panels.{full_panel}

total_ones : (n : ℕ) → total (replicate n 1) ≡ n
total_ones n = omega (arith, sum_is_total (replicate n 1), sum_by-replicate (λ (k : ℕ). k) n 1)

covers_all : (k : ℕ) → 1 ≤ k → Covers k 63 (k * 63)
covers_all k h = record { tile = omega arith; full = omega (arith, h); reach = omega arith }

-- a panel with every part, of a grid that check 1 passes
module _ (cols rows : ℕ) (g : bad_grid rows cols ≡ false) where
  abbrev p : Panel
  p = full_panel cols rows

  abbrev n : ℕ
  n = rows * cols

  some_cols : 1 ≤ cols
  some_cols = grind (arith, g)

  some_rows : 1 ≤ rows
  some_rows = grind (arith, g)

  even : Even p
  even = record { counts = refl; sum = total_ones n ∙ sym (length-replicate n 0xAA); alpha_sum = total_ones n ∙ sym (length-replicate n 0xBB) }

  tiles : (shape p).tiles ≡ n
  tiles = length-replicate n 1

  -- is accepted in a form that holds its last id, and whose file has 32 bits
  full_accepted : (f : Form) → last_id (shape p) < 2 ^ (8 * f.id) → n ≤ 65535 → length (file f p) < 2 ^ 32 → refusal f p ≡ 0
  full_accepted f last few short =
      accepts f p
      (record {
        rows = some_rows;
        rows_most = grind (arith, g);
        cols = some_cols;
        cols_most = grind (arith, g);
        visible = record { width = record { some = omega arith; inside = omega arith; short = omega arith }; height = record { some = omega arith; inside = omega arith; short = omega arith } };
        width = covers_all cols some_cols;
        height = covers_all rows some_rows;
        count = tiles;
        alpha_count = length-replicate n 1;
        sum = even.sum;
        alpha_sum = even.alpha_sum;
        last = last;
        few = omega (arith, tiles, few);
        size = short;
      })

  -- is refused with 4 where its items are too many for the form
  full_refused : (f : Form) → bad_items f (shape p) ≡ true → refusal f p ≡ 4
  full_refused f bad =
      let cover : bad_cover p.dims (seen p.dims p.visible) ≡ false = rw (covered cols 63 (cols * 63) (covers_all cols some_cols), covered rows 63 (rows * 63) (covers_all rows some_rows)) refl in
      let counts : bad_counts n (length p.tiles.lengths) (length p.alpha.lengths) ≡ false = grind (arith, tiles) in
      let sums : (bad_sum p.tiles || bad_sum p.alpha) ≡ false = grind (arith, even.sum, even.alpha_sum) in
      items_next f p g refl cover counts sums bad

  -- its file has so many bytes in the wide form
  full_length : length (file wide p) ≡ 1092 + 109 * n
  full_length =
      let short : descriptor_size p.dims ≡ 8 = grind (arith, g) in
      omega (arith, length-file wide p even, tiles, length-replicate {A = ℕ} n 0xAA, length-replicate {A = ℕ} n 0xBB, short)

  -- in the wide form the tiles alone decide
  pub every_part : n ≤ 65535 → refusal wide p ≡ 0
  every_part few = full_accepted wide (omega (arith, tiles, few)) few (omega (arith, full_length, few))

  pub too_many : 65535 < n → refusal wide p ≡ 4
  too_many many = full_refused wide (wide-items (shape p) ∙ lt-ltb 65535 (shape p).tiles (omega (arith, tiles, many)))

  -- in the ordinary form the last id decides
  pub too_many_ids : 65535 < 2 * n + 6 → refusal ordinary p ≡ 4
  too_many_ids many = full_refused ordinary (ordinary-items (shape p) ∙ lt-ltb 65535 (last_id (shape p)) (omega (arith, tiles, many)))

-- 65,280 tiles, both ways round
pub columns_256 : length_answer wide (full_panel 256 255) ≡ made 7116612
unfolding length_answer
columns_256 = rw (every_part 256 255 refl (omega arith), full_length 256 255 refl) refl

pub rows_256 : length_answer wide (full_panel 255 256) ≡ made 7116612
unfolding length_answer
rows_256 = rw (every_part 255 256 refl (omega arith), full_length 255 256 refl) refl

-- 65,536
pub both_256 : length_answer wide (full_panel 256 256) ≡ refused 4
unfolding length_answer
both_256 = rw (too_many 256 256 refl (omega arith)) refl

-- 32,766, whose last id is 65,538
pub ordinary_254 : length_answer ordinary (full_panel 254 129) ≡ refused 4
unfolding length_answer
ordinary_254 = rw (too_many_ids 254 129 refl (omega arith)) refl

pub wide_254 : length_answer wide (full_panel 254 129) ≡ made 3572586
unfolding length_answer
wide_254 = rw (every_part 254 129 refl (omega arith), full_length 254 129 refl) refl
