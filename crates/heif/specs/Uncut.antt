-- Nothing is cut: what a reader takes from the bytes of an id or of a count is that id, or that count.
use Rattle.std.specs.Prelude.{◌≡◌, true, ℕ, ◌+◌, ◌≤◌, length}
use Rattle.octets.specs.Numbers.{be, value}
use Rattle.panel.specs.Panel.{Panel}
use Rattle.panel.specs.Form.{Form}
use Rattle.heif.specs.Items.{shape, ids_from, colour_grid, alpha_grid, exif_id, xmp_id, tone_id, last_id}
use Rattle.heif.specs.Iloc.{locations}
use Rattle.heif.specs.Iinf.{infes}
use Rattle.heif.specs.Ipco.{slots}
use Rattle.heif.specs.Ipma.{positions, associations, colour_tile_list, colour_grid_list, alpha_tile_list, alpha_grid_list, image_list, tone_list}
use Rattle.heif.specs.File.{data_at}

infix 55 ◌kept_in◌
-- of a number that takes k bytes
abbrev pub ◌kept_in◌ : ℕ → ℕ → Type 0
n kept_in k = value (be k n) ≡ n

pub record Uncut (f : Form) (p : Panel) : Type 0 where
  -- each id, and those of the items that there are go up to the last
  pub id : (n : ℕ) → n ≤ last_id (shape p) → n kept_in f.id
  pub grids : (colour_grid (shape p) ≤ last_id (shape p)) × (alpha_grid (shape p) ≤ last_id (shape p))
  pub exif : (shape p).exif ≡ true → exif_id (shape p) ≤ last_id (shape p)
  pub gain : (shape p).gain ≡ true → xmp_id (shape p) ≤ last_id (shape p)
  pub tone : (shape p).tone ≡ true → tone_id (shape p) ≤ last_id (shape p)
  -- the id of the group, which is the next
  pub group : (shape p).tone ≡ true → (tone_id (shape p) + 1) kept_in 4
  -- the counts of entries in iloc, iinf and ipma
  pub iloc : length (locations (data_at f p) p) kept_in f.count
  pub iinf : length (infes f (shape p)) kept_in f.count
  pub ipma : length (associations (shape p) (positions 1 (slots p))) kept_in 4
  -- of an item's associations
  pub colour_tile : length (colour_tile_list (positions 1 (slots p))) kept_in 1
  pub colour_grid : length (colour_grid_list (positions 1 (slots p))) kept_in 1
  pub alpha_tile : length (alpha_tile_list (positions 1 (slots p))) kept_in 1
  pub alpha_grid : length (alpha_grid_list (positions 1 (slots p))) kept_in 1
  pub image : length (image_list (positions 1 (slots p))) kept_in 1
  pub tone_map : length (tone_list (positions 1 (slots p))) kept_in 1
  -- of a grid's tiles, in iref
  pub tiles : (first : ℕ) → length (ids_from first (shape p).tiles) kept_in 2
