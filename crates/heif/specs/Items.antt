-- The items of a file: which there are, and their ids.
use Rattle.std.specs.Prelude.{◌≡◌, cond, List, [], ◌∷◌, ℕ, zero, suc, ◌+◌, ◌*◌, length, is_some}
use Rattle.octets.specs.Numbers.{total}
use Rattle.panel.specs.Panel.{Panel}
use Rattle.panel.specs.Parts.{tone_of}
use Rattle.panel.specs.declared.Shape.{Shape}

-- which items a panel has
abbrev pub shape : Panel → Shape
shape p = record { tiles = length p.tiles.lengths; exif = is_some p.metadata.exif; gain = is_some p.gain; tone = is_some (tone_of p.gain) }

-- ---- ids: the colour tiles from 1 on, the colour grid, the alpha tiles, the alpha grid, then what is present of Exif, gain image, XMP, tone map

-- k ids from n on
abbrev pub ids_from : ℕ → ℕ → List ℕ
ids_from n zero = []
ids_from n (suc k) = n ∷ ids_from (suc n) k

abbrev pub colour_grid : Shape → ℕ
colour_grid s = s.tiles + 1

abbrev pub alpha_tile : Shape → ℕ
alpha_tile s = s.tiles + 2

abbrev pub alpha_grid : Shape → ℕ
alpha_grid s = 2 * s.tiles + 2

abbrev pub exif_id : Shape → ℕ
exif_id s = alpha_grid s + 1

abbrev pub gain_id : Shape → ℕ
gain_id s = exif_id s + cond s.exif 1 0

-- of the gain image's XMP, and of the tone map
abbrev pub xmp_id : Shape → ℕ
xmp_id s = gain_id s + 1

abbrev pub tone_id : Shape → ℕ
tone_id s = gain_id s + 2

-- which is how many items there are
abbrev pub last_id : Shape → ℕ
last_id s = alpha_grid s + cond s.exif 1 0 + cond s.gain 2 0 + cond s.tone 1 0

-- ---- panels whose lists and lengths add up

-- both pictures have as many tiles, and the lengths of the samples sum to what is lent
pub record Even (p : Panel) : Type 0 where
  pub counts : length p.alpha.lengths ≡ (shape p).tiles
  pub sum : total p.tiles.lengths ≡ length p.tiles.bytes
  pub alpha_sum : total p.alpha.lengths ≡ length p.alpha.bytes
