-- What is known where the lookup accepts an id, and where its payload lies.
use mathlib.Core.Path.{◌≡◌, refl, sym, ◌∙◌}
use mathlib.Core.Bool.{Bool, true, false, ◌||◌, cond}
use mathlib.Core.List.{List}
use Prim.Native.Nat.{ℕ, zero, suc, ◌+◌, ◌-◌, ◌≤◌, ◌<◌}
use native.Mathlib.Omega.{arith}
use Rattle.std.specs.Prelude.{Ok}
use lib.ListN.{length, take, drop}
use Rattle.octets.specs.Numbers.{total}
use Rattle.octets.proofs.Lists.{total-step, total-take}
use Rattle.plan_tile.specs.Lookup.{names_colour, names_alpha, LentTiles, tile_refusal, colour_index, alpha_index, sample, tile_bytes, span_of, tile_span}
use Rattle.plan_tile.specs.declared.TileSpan.{TileSpan}
use Rattle.plan_tile.proofs.Samples.{sample-at}

-- ---- the tile that an id names lies within its list

pub colour-within : (n id : ℕ) → names_colour n id ≡ true → (1 ≤ id) × (id - 1 < n)
colour-within n id e = (grind arith, grind arith)

module _ (id : ℕ) (p : LentTiles) where
  abbrev pub n : ℕ
  n = length p.colours

  -- ---- what is known where the number of the refusal is 0

  record Accepted : Type 0 where
    counts : length p.colours ≡ length p.alphas
    colours : total p.colours ≡ length p.colour_bytes
    alphas : total p.alphas ≡ length p.alpha_bytes
    some_tile : (names_colour n id || names_alpha n id) ≡ true

  accepted : tile_refusal id p ≡ 0 → Accepted
  unfolding tile_refusal
  accepted e =
      record { counts = grind arith; colours = grind arith; alphas = grind arith; some_tile = grind arith }

  pub alpha-within : tile_refusal id p ≡ 0 → names_colour n id ≡ false → (n + 2 ≤ id) × (alpha_index n id < length p.alphas)
  alpha-within e h =
      let known = accepted e in
      (grind arith, grind arith)

  -- ---- the bytes

  pub colour-part : tile_refusal id p ≡ 0 → names_colour n id ≡ true → sample p.colours p.colour_bytes (colour_index id) ≡ tile_bytes id p
  unfolding tile_bytes
  colour-part e h = rw (e, h)

  pub alpha-part : tile_refusal id p ≡ 0 → names_colour n id ≡ false → sample p.alphas p.alpha_bytes (alpha_index n id) ≡ tile_bytes id p
  unfolding tile_bytes
  alpha-part e h = rw (e, h)

  -- ---- a span holds the payload

  pub record Holds (s : TileSpan) (bytes : List ℕ) : Type 0 where
    pub within : s.start + s.size ≤ length bytes
    pub is : take s.size (drop s.start bytes) ≡ tile_bytes id p

  held : (alpha : Bool) (l b : List ℕ) (k : ℕ) → total l ≡ length b → k < length l → sample l b k ≡ tile_bytes id p → Holds (span_of alpha l k) b
  held alpha l b k sum h e = record { within = omega (arith, sum, total-step l k h, total-take l (k + 1)); is = sym (sample-at l b k h) ∙ e }

  abbrev pub lent_of : TileSpan → List ℕ
  lent_of s = cond s.alpha p.alpha_bytes p.colour_bytes

  pub holds : (s : TileSpan) → Ok s ≡ tile_span id p → Holds s (lent_of s)
  unfolding tile_span
  holds s e = by-refusal (tile_refusal id p) refl
    where
      accepts : tile_refusal id p ≡ 0 → (b : Bool) → names_colour n id ≡ b → Holds s (lent_of s)
      accepts z true h =
          let is : s ≡ span_of false p.colours (colour_index id) = cc (rw (z, h) at e) in
          rw is (held false p.colours p.colour_bytes (colour_index id) (accepted z).colours (colour-within n id h).1 (colour-part z h))
      accepts z false h =
          let is : s ≡ span_of true p.alphas (alpha_index n id) = cc (rw (z, h) at e) in
          rw is (held true p.alphas p.alpha_bytes (alpha_index n id) (accepted z).alphas (alpha-within z h).1 (alpha-part z h))

      by-refusal : (k : ℕ) → tile_refusal id p ≡ k → Holds s (lent_of s)
      by-refusal zero z = accepts z (names_colour n id) refl
      by-refusal (suc k) z = absurd (cc (rw z at e))
