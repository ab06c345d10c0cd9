-- 23008-12, 9.3.1: item property association box.
use Rattle.std.specs.Prelude.{cond, ℕ, ◌+◌, ◌*◌, length, Option, None, Some}
use mathlib.Core.List.{List, [], ◌∷◌, map, flat_map}
use Rattle.octets.specs.Numbers.{◌‖◌, be}
use Rattle.octets.specs.Boxes.{Box, full}
use Rattle.panel.specs.Form.{Form}
use Rattle.panel.specs.Parts.{given}
use Rattle.panel.specs.Panel.{Gain, Panel}
use Rattle.panel.specs.declared.Shape.{Shape}
use Rattle.panel.specs.declared.metadata.Orientation.{Orientation}
use Rattle.heif.specs.Items.{ids_from, colour_grid, alpha_tile, alpha_grid, gain_id, shape, tone_id}
use Rattle.heif.specs.Ipco
use Rattle.heif.specs.Ipco.{gain_property_count}
use Rattle.heif.specs.Colr.{second_colr_count}
use Rattle.heif.specs.Irot.{irot_count}
use Rattle.heif.specs.Imir.{imir_count}
use Rattle.heif.specs.Clli.{clli_count}
use Rattle.heif.specs.Clap.{clap_count}

-- the positions of a role's boxes, counted along the properties from `at` on
abbrev pub positions : ℕ → List (Ipco.Role × List Box) → Ipco.Role → List ℕ
positions at [] r = []
positions at (s ∷ l) r =
    elim (Ipco.Role-discrete r s.0) [ yes e ↦ ids_from at (length s.1) | no e ↦ positions (at + length s.1) l r ]

-- an association is a position; the highest of its 8 bits says that the property is essential
abbrev pub essential : List ℕ → List ℕ
essential l = map (λ k. 128 + k) l

pub record Association : Type 0 where
  pub id : ℕ
  pub properties : List ℕ

infix 55 ◌with◌
abbrev pub ◌with◌ : ℕ → List ℕ → Association
id with l = record { id = id; properties = l }

-- the same for each of n items
abbrev pub each : ℕ → ℕ → List ℕ → List Association
each first n l = map (λ id. id with l) (ids_from first n)

-- ---- what each item is associated with, descriptive properties before the transforms; its r are the positions of the role r

-- rotation and mirroring
abbrev pub turns : (Ipco.Role → List ℕ) → List ℕ
turns its = essential (its Ipco.irot) ‖ essential (its Ipco.imir)

abbrev pub colour_tile_list : (Ipco.Role → List ℕ) → List ℕ
colour_tile_list its = essential (its Ipco.hvcC_colour) ‖ essential (its Ipco.ispe_tile) ‖ essential (its Ipco.colr_first) ‖ essential (its Ipco.clap)

abbrev pub colour_grid_list : (Ipco.Role → List ℕ) → List ℕ
colour_grid_list its = its Ipco.ispe_whole ‖ essential (its Ipco.colr_first) ‖ its Ipco.pixi_colour ‖ its Ipco.colr_second ‖ its Ipco.clli ‖ turns its

abbrev pub alpha_tile_list : (Ipco.Role → List ℕ) → List ℕ
alpha_tile_list its = essential (its Ipco.hvcC_alpha) ‖ essential (its Ipco.ispe_tile) ‖ essential (its Ipco.clap)

abbrev pub alpha_grid_list : (Ipco.Role → List ℕ) → List ℕ
alpha_grid_list its = its Ipco.ispe_whole ‖ its Ipco.pixi_alpha ‖ its Ipco.auxC_alpha ‖ turns its

abbrev pub image_list : (Ipco.Role → List ℕ) → List ℕ
image_list its = essential (its Ipco.hvcC_gain) ‖ its Ipco.ispe_gain ‖ its Ipco.pixi_gain ‖ its Ipco.auxC_gain ‖ its Ipco.colr_gain ‖ turns its

abbrev pub tone_list : (Ipco.Role → List ℕ) → List ℕ
tone_list its = its Ipco.ispe_tone ‖ its Ipco.pixi_tone ‖ its Ipco.colr_tone

-- ---- the items by rising id: the colour picture's, the alpha picture's, the gain map's

abbrev pub colour_associations : Shape → (Ipco.Role → List ℕ) → List Association
colour_associations s its = each 1 s.tiles (colour_tile_list its) ‖ (colour_grid s with colour_grid_list its) ∷ []

abbrev pub alpha_associations : Shape → (Ipco.Role → List ℕ) → List Association
alpha_associations s its = each (alpha_tile s) s.tiles (alpha_tile_list its) ‖ (alpha_grid s with alpha_grid_list its) ∷ []

abbrev pub gain_associations : Shape → (Ipco.Role → List ℕ) → List Association
gain_associations s its = given s.gain ((gain_id s with image_list its) ∷ []) ‖ given s.tone ((tone_id s with tone_list its) ∷ [])

abbrev pub associations : Shape → (Ipco.Role → List ℕ) → List Association
associations s its = colour_associations s its ‖ alpha_associations s its ‖ gain_associations s its

-- id, count of associations, the associations
abbrev pub association : Form → Association → List ℕ
association f a = be f.id a.id ‖ be 1 (length a.properties) ‖ a.properties

-- the count of entries has 32 bits in each version; in version 0 an id has 16, in version 1 it has 32. Flags 0: an association has 8 bits
abbrev pub ipma : Form → List Association → Box
ipma f l = full "ipma" f.step 0 (be 4 (length l) ‖ flat_map (association f) l)

-- ---- how many bytes its body has: the items that it names, and what each is associated with

-- of an entry with k associations
abbrev pub association_size : Form → ℕ → ℕ
association_size f k = f.id + 1 + k

-- how many of irot and imir an orientation has
abbrev pub turn_count : Orientation → ℕ
turn_count o = irot_count o + imir_count o

-- how many items it names: the tiles, the grids, the gain image and the tone map
abbrev pub associated_items : Shape → ℕ
associated_items s = 2 * s.tiles + 2 + cond s.gain 1 0 + cond s.tone 1 0

-- what the gain image and the tone map are associated with: the gain map's properties, and so many of irot and imir
abbrev pub gain_association_count : ℕ → Option Gain → ℕ
gain_association_count t None = 0
gain_association_count t (Some g) = t + gain_property_count (Some g)

-- a colour tile has three, an alpha tile two, and each the clap; each grid has three and what turns it, and the colour grid what is present
-- of the second colr and clli
abbrev pub association_count : Panel → ℕ
association_count p =
    let t = turn_count p.metadata.orientation in
    (5 + 2 * clap_count p.visible) * (shape p).tiles + (3 + second_colr_count p.colour.cicp p.colour.icc + clli_count p.metadata.light + t) + (3 + t)
    + gain_association_count t p.gain

abbrev pub ipma_size : Form → Panel → ℕ
ipma_size f p = 8 + associated_items (shape p) * (1 + f.id) + association_count p
