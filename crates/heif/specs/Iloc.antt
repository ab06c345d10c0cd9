-- 14496-12, 8.11.3: item location box.
use Rattle.std.specs.Prelude.{cond, ℕ, suc, ◌+◌, ◌*◌, take, drop, length}
use mathlib.Core.List.{List, [], ◌∷◌, flat_map}
use Rattle.octets.specs.Numbers.{◌‖◌, be}
use Rattle.octets.specs.Boxes.{Box, full}
use Rattle.panel.specs.Panel.{Panel}
use Rattle.panel.specs.Form.{Form}
use Rattle.panel.specs.declared.Shape.{Shape}
use Rattle.heif.specs.Items.{shape, colour_grid, alpha_tile, alpha_grid, exif_id, last_id}
use Rattle.heif.specs.Mdat.{payloads}
use Rattle.heif.specs.Idat.{descriptor}

-- ---- where an item's payload lies: at an offset of the file (method 0) or of idat's body (method 1)

pub record Extent : Type 0 where
  pub offset : ℕ
  pub size : ℕ

pub record Location : Type 0 where
  pub id : ℕ
  pub method : ℕ
  pub extent : Extent

-- payloads that lie back to back from `at` on
abbrev pub extents : ℕ → List (List ℕ) → List Extent
extents at [] = []
extents at (x ∷ l) = record { offset = at; size = length x } ∷ extents (at + length x) l

-- items with ids from `id` on
abbrev pub located : ℕ → ℕ → List Extent → List Location
located id method [] = []
located id method (e ∷ l) = record { id = id; method = method; extent = e } ∷ located (suc id) method l

-- the items of a panel by rising id, where mdat's body begins at `at`
abbrev pub locations : ℕ → Panel → List Location
locations at p =
    let s = shape p in
    let n = length (descriptor p.dims) in
    let e = extents at (payloads p) in
    located 1 0 (take s.tiles e)
    ‖ located (colour_grid s) 1 (record { offset = 0; size = n } ∷ [])
    ‖ located (alpha_tile s) 0 (take s.tiles (drop s.tiles e))
    ‖ located (alpha_grid s) 1 (record { offset = n; size = n } ∷ [])
    ‖ located (exif_id s) 0 (drop (2 * s.tiles) e)

-- id, method, data reference 0, one extent: its offset and its length
abbrev pub entry : Form → Location → List ℕ
entry f l = be f.id l.id ‖ be 2 l.method ‖ be 2 0 ‖ be 2 1 ‖ be 4 l.extent.offset ‖ be 4 l.extent.size

-- offsets and lengths of 4 bytes, no base offset and no index; then the entries. Construction methods are there from version 1 on; in that
-- version the count and the ids have 16 bits, in version 2 they have 32
abbrev pub iloc : Form → List Location → Box
iloc f l = full "iloc" (1 + f.step) 0 (be 1 0x44 ‖ be 1 0x00 ‖ be f.count (length l) ‖ flat_map (entry f) l)

-- ---- how many bytes its body has: an entry for each item, as many as the last id

abbrev pub entry_size : Form → ℕ
entry_size f = 14 + f.id

-- of the gain map's items
abbrev pub gain_entries_size : Form → Shape → ℕ
gain_entries_size f s = cond s.gain (2 * entry_size f) 0 + cond s.tone (entry_size f) 0

abbrev pub iloc_size : Form → Shape → ℕ
iloc_size f s = 6 + f.count + last_id s * entry_size f
