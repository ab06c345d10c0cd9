-- 14496-12, 8.11.3: an item's entry of iloc, as it is read from the bytes of a file.
use Rattle.std.specs.Prelude.{◌≡◌, List, [], ◌∷◌, ℕ, ◌+◌, ◌*◌, ◌-◌, length, take, drop}
use Rattle.octets.specs.Numbers.{value}
use Rattle.octets.specs.Boxes.{boxes}
use Rattle.panel.specs.Panel.{Panel}
use Rattle.panel.specs.Form.{ordinary}
use Rattle.heif.specs.Items.{shape}
use Rattle.heif.specs.Ftyp.{head}
use Rattle.heif.specs.Hdlr.{hdlr}
use Rattle.heif.specs.Pitm.{pitm}
use Rattle.heif.specs.File.{file}
use Rattle.plan_tile.specs.Lookup.{LentTiles, lent_tiles}

-- what a lookup in a panel's tiles is lent
abbrev pub lent_tiles_of : Panel → LentTiles
lent_tiles_of p = lent_tiles p.tiles.lengths p.alpha.lengths p.tiles.bytes p.alpha.bytes

-- the number in k bytes from i on
abbrev pub read : ℕ → ℕ → List ℕ → ℕ
read k i bytes = value (take k (drop i bytes))

-- where the entry of an item begins: behind ftyp, the 12 bytes that head meta, hdlr, pitm and the 16 bytes that head iloc; an entry has 16
-- bytes, and ids rise from 1
unfoldable pub entry_at : Panel → ℕ → ℕ
entry_at p id = length (boxes (head p ∷ [])) + (12 + (length (boxes (hdlr ∷ pitm ordinary (shape p) ∷ [])) + (16 + 16 * (id - 1))))

-- x is what iloc's entry of an item says: the entry at its place has its id; its construction method, in the last 4 of 16 bits whose others
-- are reserved, is 0, so that offsets are the file's own; it has one extent; and the bytes of the file from the extent's offset on, as many
-- as its length, are x
pub record Locates (p : Panel) (id : ℕ) (x : List ℕ) : Type 0 where
  pub its_id : read 2 (entry_at p id) (file ordinary p) ≡ id
  pub its_method : read 2 (entry_at p id + 2) (file ordinary p) ≡ 0
  pub its_extents : read 2 (entry_at p id + 6) (file ordinary p) ≡ 1
  pub its_bytes : x ≡ take (read 4 (entry_at p id + 12) (file ordinary p)) (drop (read 4 (entry_at p id + 8) (file ordinary p)) (file ordinary p))
