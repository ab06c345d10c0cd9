-- Why a panel is refused: the number of the first check that holds, or 0.
use Rattle.std.specs.Prelude.{Bool, true, false, ◌||◌, not, List, [], ◌∷◌, ℕ, ◌*◌, ◌^◌, ltb, leb, eqb, length, Option, None, Some}
use Rattle.octets.specs.Numbers.{◌‖◌, total}
use Rattle.panel.specs.Panel.{Tiles, Panel}
use Rattle.panel.specs.Form.{Form}
use Rattle.panel.specs.declared.GridDims.{GridDims}
use Rattle.panel.specs.declared.VisibleSize.{VisibleSize}
use Rattle.panel.specs.declared.Shape.{Shape}
use Rattle.heif.specs.Items.{shape, last_id}
use Rattle.heif.specs.File.{file}

abbrev pub bad_side : ℕ → Bool
bad_side n = ltb n 1 || ltb 256 n

abbrev pub bad_grid : ℕ → ℕ → Bool
bad_grid rows cols = bad_side rows || bad_side cols

-- along one axis: nothing is visible, or more than is decoded, or what is decoded does not fit in 32 bits with a sign
abbrev pub bad_part : ℕ → ℕ → Bool
bad_part visible decoded = eqb visible 0 || ltb decoded visible || ltb 2147483647 decoded

-- of a visible size, where there is one
abbrev pub bad_visible : GridDims → Option VisibleSize → Bool
bad_visible d None = false
bad_visible d (Some v) = bad_part v.w d.tile_w || bad_part v.h d.tile_h

-- what is seen of a tile: the visible size, or all that is decoded
abbrev pub seen : GridDims → Option VisibleSize → VisibleSize
seen d None = record { w = d.tile_w; h = d.tile_h }
seen d (Some v) = v

-- 23008-12, 6.6.2.3, along one axis: a size is 0, or n tiles of a size are less than the full size
abbrev pub bad_axis : ℕ → ℕ → ℕ → Bool
bad_axis n tile full = eqb tile 0 || eqb full 0 || ltb (n * tile) full

-- a size is 0, or what is seen of the tiles doesn't cover the picture
abbrev pub bad_cover : GridDims → VisibleSize → Bool
bad_cover d v = bad_axis d.cols v.w d.full_w || bad_axis d.rows v.h d.full_h

abbrev pub differ : ℕ → ℕ → Bool
differ m n = not (eqb m n)

-- n tiles are wanted, and the two lists have c and a lengths
abbrev pub bad_counts : ℕ → ℕ → ℕ → Bool
bad_counts n c a = differ c n || differ a n

abbrev pub bad_sum : Tiles → Bool
bad_sum t = differ (total t.lengths) (length t.bytes)

-- the last id does not fit in k bytes
abbrev pub bad_id : ℕ → ℕ → Bool
bad_id k id = leb (2 ^ (8 * k)) id

-- the last id does not fit in the form's id, or the tiles are more than the 16 bits of a reference's count hold. In the ordinary form the
-- first alone decides, in the wide form the second: `ordinary-items` and `wide-items` in proofs/
abbrev pub bad_items : Form → Shape → Bool
bad_items f s = bad_id f.id (last_id s) || ltb 65535 s.tiles

abbrev pub too_long : ℕ → Bool
too_long n = ltb 4294967295 n

-- a check waits until it is asked
pub record Check : Type 0 where
  pub number : ℕ
  pub holds : Unit {0} → Bool

abbrev pub check : ℕ → (Unit {0} → Bool) → Check
check n h = record { number = n; holds = h }

-- the number of the first check that holds; those behind it are not asked
abbrev pub first : List Check → ℕ
first [] = 0
first (c ∷ l) = elim (c.holds tt) [ true ↦ c.number | false ↦ first l ]

-- the checks of a panel whose file has n bytes, in the order in which they are made
abbrev pub checks : Form → ℕ → Panel → List Check
checks f n p =
    check 1 (λ _. bad_grid p.dims.rows p.dims.cols)
    ∷ check 22 (λ _. bad_visible p.dims p.visible)
    ∷ check 8 (λ _. bad_cover p.dims (seen p.dims p.visible))
    ∷ check 2 (λ _. bad_counts (p.dims.rows * p.dims.cols) (length p.tiles.lengths) (length p.alpha.lengths))
    ∷ check 3 (λ _. bad_sum p.tiles || bad_sum p.alpha)
    ∷ check 4 (λ _. bad_items f (shape p))
    ∷ check 5 (λ _. too_long n)
    ∷ []

-- of a panel, as the length call judges it
unfoldable pub refusal : Form → Panel → ℕ
refusal f p = first (checks f (length (file f p)) p)

-- of a panel with so much room, as the writing call judges it
unfoldable pub refusal_in : Form → ℕ → Panel → ℕ
refusal_in f room p = let n = length (file f p) in first (checks f n p ‖ check 6 (λ _. ltb room n) ∷ [])
