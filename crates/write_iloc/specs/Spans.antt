-- Extents by their sizes alone, locations by their numbers, and the entries of payloads that lie back to back.
use Rattle.std.specs.Prelude.{ℕ, ◌+◌}
use mathlib.Core.List.{List, [], ◌∷◌, flat_map}
use Rattle.panel.specs.Form.{Form}
use Rattle.heif.specs.Iloc.{Extent, Location, located, entry}

-- extents of these sizes, back to back from `at` on
unfoldable pub spans : ℕ → List ℕ → List Extent
spans at [] = []
spans at (n ∷ l) = record { offset = at; size = n } ∷ spans (at + n) l

abbrev pub location : ℕ → ℕ → ℕ → ℕ → Location
location id method offset size = record { id = id; method = method; extent = record { offset = offset; size = size } }

-- the entries of items with ids from `id` on, whose payloads have these sizes and lie back to back in the file from `at` on
abbrev pub entries : Form → ℕ → ℕ → List ℕ → List ℕ
entries f id at sizes = flat_map (entry f) (located id 0 (spans at sizes))
