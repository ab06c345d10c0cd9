-- The entries of a picture and of the gain map, joined.
use mathlib.Core.Path.{refl, sym}
use mathlib.Core.List.{List, [], ◌∷◌, flat_map}
use Prim.Native.Nat.{ℕ, ◌*◌}
use lib.ListN.{length}
use Rattle.octets.specs.Numbers.{◌‖◌}
use Rattle.octets.specs.declared.Output.{Output}
use Rattle.octets.specs.Stores.{Wrote}
use Rattle.octets.proofs.Lists.{flat_map_one, flat_map-append}
use Rattle.octets.proofs.Stores.{◌▹◌, told}
use Rattle.panel.specs.Form.{Form}
use Rattle.heif.specs.Ipma.{◌with◌, each, association, association_size}
use Rattle.heif.proofs.Ipma.{length_picture, length-gain_entries, length-ipma_entries}

-- how many bytes each writer needs room for
pub ruleset lengths = (length_picture, length-gain_entries, length-ipma_entries)

module _ (f : Form) (first n grid : ℕ) (tiles list : List ℕ) where
  -- the tiles of a picture, and its grid
  pub picture : {l m o : Output}
      → Wrote l (association_size f (length tiles) * n) (flat_map (association f) (each first n tiles)) m
      → Wrote m (association_size f (length list)) (association f (grid with list)) o
      → let a = each first n tiles ‖ (grid with list) ∷ [] in Wrote l (length (flat_map (association f) a)) (flat_map (association f) a) o
  picture v w =
      told
      (v ▹ told w (sym (flat_map_one (association f) (grid with list))) refl)
      (sym (flat_map-append (association f) (each first n tiles) ((grid with list) ∷ [])))
      (sym (length_picture f first n grid tiles list))
