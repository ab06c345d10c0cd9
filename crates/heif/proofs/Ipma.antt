-- The length of ipma: how many items it names, and how many positions each; and its entries piece by piece.
use mathlib.Core.Path.{◌≡◌, refl, sym, ap, ◌∙◌}
use mathlib.Core.Bool.{Bool, true, false, cond}
use Rattle.std.specs.Prelude.{Option, None, Some, is_some}
use mathlib.Core.List.{List, [], ◌∷◌, ◌++◌, map, map-append, flat_map}
use Prim.Native.Nat.{ℕ, ◌+◌, zero, suc, ◌*◌}
use native.Mathlib.Omega.{arith}
use native.Mathlib.Nat.{zero-mul, suc-mul, mul_comm}
use lib.ListN.{length, length-append, length-map}
use Rattle.octets.specs.Numbers.{◌‖◌, total}
use Rattle.octets.specs.Boxes.{Box}
use Rattle.octets.proofs.Lists.{total-append, flat_map-map, flat_map_one, flat_map-append, length-flat_map}
use Rattle.octets.proofs.Numbers.{length-be}
use Rattle.panel.specs.Panel.{Gain, Panel, Colour}
use Rattle.panel.specs.Form.{Form}
use Rattle.panel.specs.Parts.{given}
use Rattle.panel.specs.declared.Shape.{Shape}
use Rattle.panel.proofs.Parts.{length-optional}
use Rattle.heif.specs.Items.{shape, ids_from, colour_grid, alpha_tile, alpha_grid, gain_id, tone_id}
use Rattle.heif.specs.Ipco
use Rattle.heif.specs.Ipco.{Role, tone_slots, slots}
use Rattle.heif.specs.Ipma.{positions, Association, ◌with◌, each, turns, colour_tile_list, colour_grid_list, alpha_tile_list, alpha_grid_list}
use Rattle.heif.specs.Ipma.{image_list, tone_list, colour_associations, alpha_associations, gain_associations, associations, association, ipma}
use Rattle.heif.specs.Ipma.{association_size, turn_count, associated_items, gain_association_count, association_count, ipma_size}
use Rattle.heif.specs.Clap.{clap_count}
use Rattle.heif.specs.Colr.{second_colr_count, alternates_count}
use Rattle.heif.proofs.Items.{length-ids_from, length-given}
use Rattle.heif.proofs.Colr.{length-second_colr, length-alternates}
use Rattle.heif.proofs.Clli.{length-clli}
use Rattle.heif.proofs.Clap.{length-clap}
use Rattle.panel.proofs.Agreement.{with_gain}

-- whatever positions the roles have
pub length-associations : (s : Shape) (its : Role → List ℕ) → length (associations s its) ≡ associated_items s
length-associations s its = simp (length-append, length-map, length-ids_from, length-given) (omega arith)

-- how many properties an item has
abbrev pub width : Association → ℕ
width a = length a.properties

-- whatever the items and their properties
length-ipma_of : (f : Form) (l : List Association) → length (ipma f l).body ≡ 8 + length l * (1 + f.id) + total (map width l)
unfolding flat_map
length-ipma_of f l = omega (arith, entries l)
  where
    entries : (l : List Association) → length (flat_map (association f) l) ≡ length l * (1 + f.id) + total (map width l)
    entries [] = omega (arith, zero-mul (1 + f.id))
    entries (a ∷ l) = simp (length-append, length-be, suc-mul) (omega (arith, entries l))

-- entries behind entries
width-append : (l m : List Association) → total (map width (l ‖ m)) ≡ total (map width l) + total (map width m)
width-append l m = ap total (map-append width l m) ∙ total-append (map width l) (map width m)

-- a picture: n tiles that have the same k properties, and their grid
width_picture : (first n id : ℕ) (l m : List ℕ) {k : ℕ} → length l ≡ k → total (map width (each first n l ‖ (id with m) ∷ [])) ≡ n * k + length m
width_picture first zero id l m {k} h = omega (arith, zero-mul k)
width_picture first (suc n) id l m {k} h = omega (arith, width_picture (suc first) n id l m h, suc-mul n k)

-- of the tone map, wherever its positions begin
width-tone : (id at : ℕ) (size depth : Box) (t : Option (List ℕ)) (a : Option Colour)
    → let its = positions at (tone_slots size depth t a) in
    total (map width (given (is_some t) ((id with its Ipco.ispe_tone ‖ its Ipco.pixi_tone ‖ its Ipco.colr_tone) ∷ []))) ≡ cond (is_some t) (2 + alternates_count a) 0
width-tone id at size depth None a = refl
width-tone id at size depth (Some t) a = simp (length-ids_from, length-alternates) (omega arith)

width-gain : (p : Panel) (g : Option Gain)
    → let q = with_gain p g in
    let its = positions 1 (slots q) in
    total (map width (gain_associations (shape q) its)) ≡ gain_association_count (length (turns its)) g
width-gain p None = refl
width-gain p (Some g) = simp width-tone (omega arith)

width-associations : (p : Panel) → total (map width (associations (shape p) (positions 1 (slots p)))) ≡ association_count p
width-associations p =
    let its = positions 1 (slots p) in
    let s = shape p in
    let t : length (turns its) ≡ turn_count p.metadata.orientation = simp (length-append, length-map, length-ids_from, length-optional) in
    let v = clap_count p.visible in
    let tile : length (colour_tile_list its) ≡ 3 + v = simp (length-map, length-ids_from, length-clap) (omega arith) in
    let alpha : length (alpha_tile_list its) ≡ 2 + v = simp (length-map, length-ids_from, length-clap) (omega arith) in
    let c : length (colour_grid_list its) ≡ 3 + second_colr_count p.colour.cicp p.colour.icc + cond (is_some p.metadata.light) 1 0 + length (turns its)
    = simp (length-append, length-ids_from, length-second_colr, length-clli) (omega arith) in
    omega (
      arith,
      width-append (colour_associations s its) (alpha_associations s its ‖ gain_associations s its),
      width-append (alpha_associations s its) (gain_associations s its),
      width_picture 1 s.tiles (colour_grid s) (colour_tile_list its) (colour_grid_list its) {k = 3 + v} tile,
      width_picture (alpha_tile s) s.tiles (alpha_grid s) (alpha_tile_list its) (alpha_grid_list its) {k = 2 + v} alpha,
      width-gain p p.gain ∙ ap (λ (k : ℕ). gain_association_count k p.gain) t,
      c,
      t,
    )

pub length-ipma : (f : Form) (p : Panel) → length (ipma f (associations (shape p) (positions 1 (slots p)))).body ≡ ipma_size f p
length-ipma f p =
    let its = positions 1 (slots p) in
    let l = associations (shape p) its in
    length-ipma_of f l ∙ ap (λ (n : ℕ). 8 + n * (1 + f.id) + total (map width l)) (length-associations (shape p) its)
    ∙ ap (λ (n : ℕ). 8 + associated_items (shape p) * (1 + f.id) + n) (width-associations p)

-- ---- the entries of each picture and of the gain map, whatever positions they name

length-association : (f : Form) (id : ℕ) (l : List ℕ) → length (association f (id with l)) ≡ association_size f (length l)
length-association f id l = simp (length-append, length-be) (omega arith)

length-each : (f : Form) (first n : ℕ) (l : List ℕ) → length (flat_map (association f) (each first n l)) ≡ association_size f (length l) * n
length-each f first n l =
    ap length (flat_map-map (association f) (λ id. id with l) (ids_from first n))
    ∙ length-flat_map (λ id. association f (id with l)) (association_size f (length l)) (λ id. length-association f id l) (ids_from first n)
    ∙ ap (λ (m : ℕ). m * association_size f (length l)) (length-ids_from first n)
    ∙ mul_comm n (association_size f (length l))

-- the tiles and the grid of a picture
pub length_picture : (f : Form) (first n id : ℕ) (l m : List ℕ)
    → length (flat_map (association f) (each first n l ‖ (id with m) ∷ [])) ≡ association_size f (length l) * n + association_size f (length m)
length_picture f first n id l m =
    ap length (flat_map-append (association f) (each first n l) ((id with m) ∷ []) ∙ ap (λ (r : List ℕ). flat_map (association f) (each first n l) ++ r) (flat_map_one (association f) (id with m)))
    ∙ length-append (flat_map (association f) (each first n l)) (association f (id with m))
    ∙ (λ i. length-each f first n l i + length-association f id m i)

-- an entry that is there only if so
length-given-entry : (f : Form) (b : Bool) (id : ℕ) (l : List ℕ)
    → length (flat_map (association f) (given b ((id with l) ∷ []))) ≡ cond b (association_size f (length l)) 0
unfolding flat_map
length-given-entry f true id l = ap length (flat_map_one (association f) (id with l)) ∙ length-association f id l
length-given-entry f false id l = refl

pub length-gain_entries : (f : Form) (s : Shape) (its : Role → List ℕ)
    → length (flat_map (association f) (gain_associations s its))
    ≡ cond s.gain (association_size f (length (image_list its))) 0 + cond s.tone (association_size f (length (tone_list its))) 0
length-gain_entries f s its =
    ap length (flat_map-append (association f) (given s.gain ((gain_id s with image_list its) ∷ [])) (given s.tone ((tone_id s with tone_list its) ∷ [])))
    ∙ length-append (flat_map (association f) (given s.gain ((gain_id s with image_list its) ∷ []))) (flat_map (association f) (given s.tone ((tone_id s with tone_list its) ∷ [])))
    ∙ (λ i. length-given-entry f s.gain (gain_id s) (image_list its) i + length-given-entry f s.tone (tone_id s) (tone_list its) i)

-- the entries of all items, piece by piece
pub entries_joined : (f : Form) (s : Shape) (its : Role → List ℕ)
    → flat_map (association f) (colour_associations s its)
    ++ (flat_map (association f) (alpha_associations s its) ++ flat_map (association f) (gain_associations s its))
    ≡ flat_map (association f) (associations s its)
entries_joined f s its =
    ap (λ (r : List ℕ). flat_map (association f) (colour_associations s its) ++ r) (sym (flat_map-append (association f) (alpha_associations s its) (gain_associations s its)))
    ∙ sym (flat_map-append (association f) (colour_associations s its) (alpha_associations s its ‖ gain_associations s its))

-- the whole box
pub length-ipma_entries : (f : Form) (s : Shape) (its : Role → List ℕ)
    → 8 + length (ipma f (associations s its)).body
    ≡ 16 + (length (flat_map (association f) (colour_associations s its))
    + (length (flat_map (association f) (alpha_associations s its)) + length (flat_map (association f) (gain_associations s its))))
length-ipma_entries f s its =
    let x = flat_map (association f) (colour_associations s its) in
    let y = flat_map (association f) (alpha_associations s its) in
    let z = flat_map (association f) (gain_associations s its) in
    omega (arith, ap length (entries_joined f s its), length-append x (y ++ z), length-append y z)
