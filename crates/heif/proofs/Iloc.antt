-- Extents run by run, how many entries iloc has, and how long it is.
use mathlib.Core.Path.{◌≡◌, refl, sym, ap, ◌∙◌}
use mathlib.Core.List.{List, [], ◌∷◌, ◌++◌, append_assoc, flatten}
use Prim.Native.Nat.{ℕ, suc, ◌+◌, ◌*◌}
use native.Mathlib.Nat.{add-zero}
use native.Mathlib.Omega.{arith}
use lib.ListN.{length, length-append, take, drop}
use lib.Seq.{take_at, drop_at}
use Rattle.octets.specs.Numbers.{◌‖◌, be}
use Rattle.octets.proofs.Numbers.{length-be}
use Rattle.octets.proofs.Lists.{length-flat_map}
use Rattle.panel.specs.Panel.{Panel}
use Rattle.panel.specs.Form.{Form}
use Rattle.heif.specs.Items.{shape, colour_grid, alpha_tile, alpha_grid, exif_id, last_id, Even}
use Rattle.heif.specs.Mdat.{other_payloads, payloads}
use Rattle.heif.specs.Idat.{descriptor}
use Rattle.heif.specs.Iloc.{Extent, Location, extents, located, locations, entry, iloc, iloc_size, entry_size}
use Rattle.heif.proofs.Mdat.{length-samples, cut, length-exif_payload, length-gain_payloads}

-- ---- extents, run by run

extents-append : (at : ℕ) (l m : List (List ℕ)) → extents at (l ++ m) ≡ extents at l ++ extents (at + length (flatten l)) m
unfolding flatten
extents-append at [] m = ap (λ (k : ℕ). extents k m) (sym (add-zero at))
extents-append at (x ∷ l) m =
    let h : at + length x + length (flatten l) ≡ at + length (x ++ flatten l) = omega (arith, length-append x (flatten l)) in
    ap (λ (r : List Extent). record { offset = at; size = length x } ∷ r) (extents-append (at + length x) l m ∙ ap (λ (k : ℕ). extents (at + length x) l ++ extents k m) h)

pub length-extents : (at : ℕ) (l : List (List ℕ)) → length (extents at l) ≡ length l
length-extents at [] = refl
length-extents at (x ∷ l) = ap suc (length-extents (at + length x) l)

pub length-located : (id method : ℕ) (l : List Extent) → length (located id method l) ≡ length l
length-located id method [] = refl
length-located id method (e ∷ l) = ap suc (length-located (suc id) method l)

-- where the two pictures have as many tiles, the three runs of payloads stand one by one
pub locations_runs : (at : ℕ) (p : Panel) → length p.alpha.lengths ≡ (shape p).tiles
    → locations at p
    ≡ located 1 0 (extents at (cut p.tiles))
    ‖ located (colour_grid (shape p)) 1 (record { offset = 0; size = length (descriptor p.dims) } ∷ [])
    ‖ located (alpha_tile (shape p)) 0 (extents (at + length (flatten (cut p.tiles))) (cut p.alpha))
    ‖ located (alpha_grid (shape p)) 1 (record { offset = length (descriptor p.dims); size = length (descriptor p.dims) } ∷ [])
    ‖ located (exif_id (shape p)) 0 (extents (at + length (flatten (cut p.tiles)) + length (flatten (cut p.alpha))) (other_payloads p))
locations_runs at p h =
    let t = (shape p).tiles in
    let c = cut p.tiles in
    let a = cut p.alpha in
    let o = other_payloads p in
    let b = at + length (flatten c) in
    let ec = extents at c in
    let ea = extents b a in
    let eo = extents (b + length (flatten a)) o in
    let e : extents at (payloads p) ≡ ec ++ (ea ++ eo) = extents-append at c (a ++ o) ∙ ap (λ (r : List Extent). ec ++ r) (extents-append b a o) in
    let lc : length ec ≡ t = length-extents at c ∙ length-samples p.tiles.lengths p.tiles.bytes in
    let la : length ea ≡ t = length-extents b a ∙ length-samples p.alpha.lengths p.alpha.bytes ∙ h in
    let x : take t (extents at (payloads p)) ≡ ec = ap (take t) e ∙ take_at ec (ea ++ eo) t lc in
    let w : drop t (extents at (payloads p)) ≡ ea ++ eo = ap (drop t) e ∙ drop_at ec (ea ++ eo) t lc in
    let y : take t (drop t (extents at (payloads p))) ≡ ea = ap (take t) w ∙ take_at ea eo t la in
    let z : drop (2 * t) (extents at (payloads p)) ≡ eo = ap (drop (2 * t)) e ∙ twice ec ea eo t lc la in
    λ i. located 1 0 (x i) ‖ located (colour_grid (shape p)) 1 (record { offset = 0; size = length (descriptor p.dims) } ∷ []) ‖ located (alpha_tile (shape p)) 0 (y i)
    ‖ located (alpha_grid (shape p)) 1 (record { offset = length (descriptor p.dims); size = length (descriptor p.dims) } ∷ []) ‖ located (exif_id (shape p)) 0 (z i)
  where
    twice : (x y z : List Extent) (t : ℕ) → length x ≡ t → length y ≡ t → drop (2 * t) (x ++ (y ++ z)) ≡ z
    twice x y z t hx hy =
        ap (drop (2 * t)) (sym (append_assoc x y z)) ∙ drop_at (x ++ y) z (2 * t) (omega (arith, length-append x y))

-- ---- how many bytes

pub length-entry : (f : Form) (l : Location) → length (entry f l) ≡ entry_size f
length-entry f l =
    omega (arith, length-append (be f.id l.id) (be 2 l.method ‖ be 2 0 ‖ be 2 1 ‖ be 4 l.extent.offset ‖ be 4 l.extent.size), length-be f.id l.id)

pub length-locations : (at : ℕ) (p : Panel) → Even p → length (locations at p) ≡ last_id (shape p)
length-locations at p h =
    ap length (locations_runs at p h.counts)
    ∙ simp (length-append, length-located, length-extents, length-samples, length-exif_payload, length-gain_payloads) (omega arith)

length-iloc_of : (f : Form) (l : List Location) → length (iloc f l).body ≡ 6 + f.count + length l * entry_size f
length-iloc_of f l = simp (length-append, length-be, length-flat_map (entry f) (entry_size f) (length-entry f)) (omega arith)

-- wherever the data begin
pub length-iloc : (f : Form) (at : ℕ) (p : Panel) → Even p → length (iloc f (locations at p)).body ≡ iloc_size f (shape p)
length-iloc f at p h = length-iloc_of f (locations at p) ∙ ap (λ (n : ℕ). 6 + f.count + n * entry_size f) (length-locations at p h)
