-- The lookup and the file agree: for an accepted panel, what the lookup gives for an id is what the file's own entry of that id says.
use mathlib.Core.Path.{◌≡◌, refl, sym, ap, ◌∙◌, subst}
use mathlib.Core.Bool.{Bool, true, false}
use mathlib.Core.List.{List, [], ◌∷◌, ◌++◌, map, flatten, flat_map, append_assoc}
use Prim.Native.Nat.{ℕ, ◌+◌, ◌*◌, ◌-◌, ◌^◌, ◌≤◌, ◌<◌}
use Prim.Native.String.{String}
use native.Mathlib.Omega.{arith}
use lib.ListN.{length, length-append, take, drop, get_or}
use lib.Seq.{drop-drop}
use Rattle.octets.specs.Numbers.{◌‖◌, be, value, total}
use Rattle.octets.specs.Boxes.{Box, kind, tag, full, boxes}
use Rattle.octets.proofs.Lists.{flatten-append, flat_map-append, length-flat_map}
use Rattle.octets.proofs.Numbers.{value-be}
use Rattle.octets.proofs.Boxes.{boxes-cons, boxes_one, boxes-append}
use Rattle.panel.specs.Panel.{Panel}
use Rattle.panel.specs.Form.{ordinary}
use Rattle.heif.specs.Items.{shape, colour_grid, alpha_tile, alpha_grid, exif_id, Even}
use Rattle.heif.specs.Mdat.{other_payloads, payloads, mdat}
use Rattle.heif.specs.Idat.{descriptor, idat}
use Rattle.heif.specs.Iloc.{Location, extents, located, locations, entry, iloc}
use Rattle.heif.specs.Iinf.{iinf}
use Rattle.heif.specs.Iref.{iref}
use Rattle.heif.specs.Hdlr.{hdlr}
use Rattle.heif.specs.Pitm.{pitm}
use Rattle.heif.specs.Iprp.{iprp}
use Rattle.heif.specs.Grpl.{grpl}
use Rattle.heif.specs.Meta.{meta_boxes, meta}
use Rattle.heif.specs.Ftyp.{head}
use Rattle.heif.specs.File.{data_at, file}
use Rattle.heif.specs.Refusal.{refusal}
use Rattle.heif.proofs.Refusal.{Accepted, accepted, even-accepted}
use Rattle.heif.proofs.Mdat.{cut, length-samples, length-mdat}
use Rattle.heif.proofs.Iloc.{length-extents, length-located, locations_runs, length-entry}
use Rattle.heif.proofs.File.{length-file, data_at-size, data_begins}
use Rattle.plan_tile.specs.Lookup.{names_colour, lent_tiles, tile_refusal, tile_bytes}
use Rattle.plan_tile.specs.Found.{lent_tiles_of, read, entry_at, Locates}
use Rattle.plan_tile.proofs.Answers.{colour-within, alpha-within, colour-part, alpha-part}
use Rattle.plan_tile.proofs.Entries.{behind_front, Begins, begins, location_of, entry_of, within, payload_of}

-- ---- boxes with heads of a fixed length

-- y is k bytes and then x
record Front (k : ℕ) (x y : List ℕ) : Type 0 where
  front : List ℕ
  long : length front ≡ k
  is : y ≡ front ++ x

behind : {k : ℕ} {x y : List ℕ} → Front k x y → (z : List ℕ) (n : ℕ) → drop (k + n) (y ++ z) ≡ drop n (x ++ z)
behind {k} {x} {y} f z n =
    ap (λ (w : List ℕ). drop (k + n) (w ++ z)) f.is ∙ ap (drop (k + n)) (append_assoc f.front x z) ∙ behind_front f.front (x ++ z) k n f.long

full-front : (t : String) (v g : ℕ) (x : List ℕ) → Front 12 x (boxes (full t v g x ∷ []))
full-front t v g x =
    record { front = be 4 (8 + length (be 1 v ‖ be 3 g ‖ x)) ++ (tag (kind t) ++ (be 1 v ++ be 3 g)); long = refl; is = boxes_one (full t v g x) }

iloc-front : (l : List Location) → Front 16 (flat_map (entry ordinary) l) (boxes (iloc ordinary l ∷ []))
iloc-front l =
    let x = flat_map (entry ordinary) l in
    let b = be 1 0x44 ‖ be 1 0x00 ‖ be 2 (length l) in
    record { front = be 4 (8 + length (be 1 1 ‖ be 3 0 ‖ b ‖ x)) ++ (tag (kind "iloc") ++ (be 1 1 ++ (be 3 0 ++ b))); long = refl; is = boxes_one (iloc ordinary l) }

-- ---- where iloc's entries begin

module _ (p : Panel) where
  abbrev at : ℕ
  at = data_at ordinary p

  abbrev places : List Location
  places = locations at p

  -- what stands behind iloc within meta
  abbrev later : List Box
  later = iinf ordinary (shape p) ∷ iref ordinary (shape p) ∷ iprp ordinary p ∷ grpl (shape p) ‖ idat p.dims ∷ []

  abbrev more : List ℕ
  more = boxes later ++ boxes (mdat p ∷ [])

  entries_at : (m : ℕ) → drop (length (boxes (head p ∷ [])) + (12 + (length (boxes (hdlr ∷ pitm ordinary (shape p) ∷ [])) + (16 + m)))) (file ordinary p) ≡ drop m (flat_map (entry ordinary) places ++ more)
  unfolding file
  entries_at m =
      let s = shape p in
      let a = boxes (head p ∷ []) in
      let b = boxes (hdlr ∷ pitm ordinary s ∷ []) in
      let i = boxes (iloc ordinary places ∷ later) in
      let d = boxes (mdat p ∷ []) in
      let whole : boxes (head p ∷ meta ordinary places p ∷ mdat p ∷ []) ≡ a ++ (boxes (meta ordinary places p ∷ []) ++ d)
      = boxes-cons (head p) (meta ordinary places p ∷ mdat p ∷ []) ∙ ap (λ (x : List ℕ). a ++ x) (boxes-cons (meta ordinary places p) (mdat p ∷ [])) in
      let parts : boxes (meta_boxes ordinary places p) ++ d ≡ b ++ (i ++ d)
      = ap (λ (x : List ℕ). x ++ d) (boxes-append (hdlr ∷ pitm ordinary s ∷ []) (iloc ordinary places ∷ later)) ∙ append_assoc b i d in
      let last : i ++ d ≡ boxes (iloc ordinary places ∷ []) ++ more
      = ap (λ (x : List ℕ). x ++ d) (boxes-cons (iloc ordinary places) later) ∙ append_assoc (boxes (iloc ordinary places ∷ [])) (boxes later) d in
      ap (drop (length a + (12 + (length b + (16 + m))))) whole
      ∙ behind_front a (boxes (meta ordinary places p ∷ []) ++ d) (length a) (12 + (length b + (16 + m))) refl
      ∙ behind (full-front "meta" 0 0 (boxes (meta_boxes ordinary places p))) d (length b + (16 + m))
      ∙ ap (drop (length b + (16 + m))) parts
      ∙ behind_front b (i ++ d) (length b) (16 + m) refl
      ∙ ap (drop (16 + m)) last
      ∙ behind (iloc-front places) more m

-- ---- an entry's numbers, read from where it begins

module _ (file : List ℕ) (e : ℕ) (l : Location) (b : Begins (entry ordinary l) (drop e file)) where
  -- the bytes of an entry from its k-th on
  part : (k j : ℕ) → take j (drop (e + k) file) ≡ take j (drop k (entry ordinary l ++ b.rest))
  part k j = ap (take j) (sym (drop-drop k e file) ∙ ap (drop k) b.is)

  its_id : l.id < 2 ^ 16 → read 2 e file ≡ l.id
  its_id h = ap (λ (y : List ℕ). value (take 2 y)) b.is ∙ value-be 2 l.id h

  its_method : l.method < 2 ^ 16 → read 2 (e + 2) file ≡ l.method
  its_method h = ap value (part 2 2) ∙ value-be 2 l.method h

  its_extents : read 2 (e + 6) file ≡ 1
  its_extents = ap value (part 6 2)

  its-offset : l.extent.offset < 2 ^ 32 → read 4 (e + 8) file ≡ l.extent.offset
  its-offset h = ap value (part 8 4) ∙ value-be 4 l.extent.offset h

  its-size : l.extent.size < 2 ^ 32 → read 4 (e + 12) file ≡ l.extent.size
  its-size h = ap value (part 12 4) ∙ value-be 4 l.extent.size h

module _ (p : Panel) (a : Accepted ordinary p) where
  even : Even p
  even = even-accepted ordinary p a

  -- the payloads end where the file does
  ends : at p + length (flatten (payloads p)) ≡ length (file ordinary p)
  ends = omega (arith, length-file ordinary p even, data_at-size ordinary p even, length-mdat p even)

  -- ---- one of a run of payloads

  module _ (before l after : List (List ℕ)) (same : payloads p ≡ before ++ (l ++ after)) (k : ℕ) (h : k < length l) (id : ℕ) where
    abbrev from : ℕ
    from = at p + length (flatten before)

    abbrev its : Location
    its = location_of id from l k

    fits : its.extent.offset + its.extent.size ≤ length (file ordinary p)
    fits =
        omega (
          arith,
          ends,
          within l k h,
          ap (λ (x : List (List ℕ)). length (flatten x)) same,
          ap length (flatten-append before (l ++ after)),
          length-append (flatten before) (flatten (l ++ after)),
          ap length (flatten-append l after),
          length-append (flatten l) (flatten after),
        )

    holds : take its.extent.size (drop its.extent.offset (file ordinary p)) ≡ get_or l k []
    holds =
        let t = total (map length (take k l)) in
        let n = length (get_or l k []) in
        let w : from + t ≡ at p + (length (flatten before) + t) = omega arith in
        ap (λ (o : ℕ). take n (drop o (file ordinary p))) w
        ∙ ap (take n) (sym (drop-drop (length (flatten before) + t) (at p) (file ordinary p)) ∙ ap (drop (length (flatten before) + t)) (data_begins ordinary p even ∙ ap flatten same))
        ∙ payload_of before l after k h

    locates : {j : ℕ} → id + k ≡ j → j < 2 ^ 16 → Begins (entry ordinary its) (drop (entry_at p j) (file ordinary p)) → Locates p j (get_or l k [])
    locates {j} e small b =
        let f = file ordinary p in
        let s = a.size in
        let o = its-offset f (entry_at p j) its b (omega (arith, fits)) in
        let z = its-size f (entry_at p j) its b (omega (arith, fits)) in
        record {
          its_id = its_id f (entry_at p j) its b (omega (arith, e)) ∙ e;
          its_method = its_method f (entry_at p j) its b (omega arith);
          its_extents = its_extents f (entry_at p j) its b;
          its_bytes = sym (holds) ∙ (λ i. take (sym z i) (drop (sym o i) f));
        }

  -- ---- the colour tiles and the alpha tiles

  abbrev colours : List (List ℕ)
  colours = cut p.tiles

  abbrev alphas : List (List ℕ)
  alphas = cut p.alpha

  abbrev n : ℕ
  n = (shape p).tiles

  -- behind the colour tiles' entries: the colour grid's, the alpha tiles', the alpha grid's and the others'
  abbrev colour_run : List Location
  colour_run = located 1 0 (extents (at p) colours)

  abbrev grid : Location
  grid = record { id = colour_grid (shape p); method = 1; extent = record { offset = 0; size = length (descriptor p.dims) } }

  abbrev alpha_from : ℕ
  alpha_from = at p + length (flatten colours)

  abbrev alpha_run : List Location
  alpha_run = located (alpha_tile (shape p)) 0 (extents alpha_from alphas)

  abbrev last_run : List Location
  last_run =
      located (alpha_grid (shape p)) 1 (record { offset = length (descriptor p.dims); size = length (descriptor p.dims) } ∷ [])
      ‖ located (exif_id (shape p)) 0 (extents (alpha_from + length (flatten alphas)) (other_payloads p))

  runs : places p ≡ colour_run ++ (grid ∷ (alpha_run ++ last_run))
  runs = locations_runs (at p) p even.counts

  -- the entries of the colour tiles come first
  colour_entries : (m : ℕ) → drop m (flat_map (entry ordinary) (places p) ++ more p)
      ≡ drop m (flat_map (entry ordinary) colour_run ++ (flat_map (entry ordinary) (grid ∷ (alpha_run ++ last_run)) ++ more p))
  colour_entries m =
      ap (λ (l : List Location). drop m (flat_map (entry ordinary) l ++ more p)) runs
      ∙ ap (drop m) (ap (λ (x : List ℕ). x ++ more p) (flat_map-append (entry ordinary) colour_run (grid ∷ (alpha_run ++ last_run))) ∙ append_assoc (flat_map (entry ordinary) colour_run) (flat_map (entry ordinary) (grid ∷ (alpha_run ++ last_run))) (more p))

  -- those of the alpha tiles begin behind n + 1 others
  alpha_entries : (m : ℕ) → drop (n * 16 + (16 + m)) (flat_map (entry ordinary) (places p) ++ more p)
      ≡ drop m (flat_map (entry ordinary) alpha_run ++ (flat_map (entry ordinary) last_run ++ more p))
  unfolding flat_map
  alpha_entries m =
      let c = flat_map (entry ordinary) colour_run in
      let y = flat_map (entry ordinary) (alpha_run ++ last_run) in
      let long : length c ≡ n * 16
      = length-flat_map (entry ordinary) 16 (length-entry ordinary) colour_run
      ∙ ap (λ (k : ℕ). k * 16) (length-located 1 0 (extents (at p) colours) ∙ length-extents (at p) colours ∙ length-samples p.tiles.lengths p.tiles.bytes) in
      colour_entries (n * 16 + (16 + m))
      ∙ behind_front c ((entry ordinary grid ++ y) ++ more p) (n * 16) (16 + m) long
      ∙ ap (drop (16 + m)) (append_assoc (entry ordinary grid) y (more p))
      ∙ behind_front (entry ordinary grid) (y ++ more p) 16 m refl
      ∙ ap (drop m) (ap (λ (x : List ℕ). x ++ more p) (flat_map-append (entry ordinary) alpha_run last_run) ∙ append_assoc (flat_map (entry ordinary) alpha_run) (flat_map (entry ordinary) last_run) (more p))

  small : (id : ℕ) → id ≤ 2 * n + 1 → id < 2 ^ 16
  small id h = omega (arith, a.last)

  colour-found : (id : ℕ) → 1 ≤ id → id - 1 < n → Locates p id (get_or colours (id - 1) [])
  unfolding entry_at flatten
  colour-found id one h =
      let k = id - 1 in
      let within : k < length colours = omega (arith, length-samples p.tiles.lengths p.tiles.bytes) in
      let b = entry_of 1 (at p) colours k (flat_map (entry ordinary) (grid ∷ (alpha_run ++ last_run)) ++ more p) within in
      let start : at p ≡ at p + length {A = ℕ} (flatten []) = omega arith in
      let c = subst (λ (o : ℕ). Begins (entry ordinary (location_of 1 o colours k)) (drop (entry_at p id) (file ordinary p))) start (begins (entries_at p (16 * k) ∙ colour_entries (16 * k)) b) in
      locates [] colours (alphas ++ other_payloads p) refl k within 1 (omega arith) (small id (omega arith)) c

  alpha-found : (id : ℕ) → n + 2 ≤ id → id - (n + 2) < n → Locates p id (get_or alphas (id - (n + 2)) [])
  unfolding entry_at
  alpha-found id one h =
      let k = id - (n + 2) in
      let within : k < length alphas = omega (arith, length-samples p.alpha.lengths p.alpha.bytes, even.counts) in
      let b = entry_of (alpha_tile (shape p)) alpha_from alphas k (flat_map (entry ordinary) last_run ++ more p) within in
      let w : 16 * (id - 1) ≡ n * 16 + (16 + 16 * k) = omega arith in
      let c = begins (entries_at p (16 * (id - 1)) ∙ ap (λ (m : ℕ). drop m (flat_map (entry ordinary) (places p) ++ more p)) w ∙ alpha_entries (16 * k)) b in
      locates colours alphas (other_payloads p) refl k within (alpha_tile (shape p)) (omega arith) (small id (omega arith)) c

-- what the lookup gives for an id that it accepts is what the file's entry of that id says
pub tile_in_file : (p : Panel) → refusal ordinary p ≡ 0 → (id : ℕ) → tile_refusal id (lent_tiles_of p) ≡ 0 → Locates p id (tile_bytes id (lent_tiles_of p))
unfolding lent_tiles
tile_in_file p r id z = by (names_colour (length p.tiles.lengths) id) refl
  where
    by : (b : Bool) → names_colour (length p.tiles.lengths) id ≡ b → Locates p id (tile_bytes id (lent_tiles_of p))
    by true e =
        let w = colour-within (length p.tiles.lengths) id e in
        subst (Locates p id) (colour-part id (lent_tiles_of p) z e) (colour-found p (accepted ordinary p r) id w.0 w.1)
    by false e =
        let w = alpha-within id (lent_tiles_of p) z e in
        subst (Locates p id) (alpha-part id (lent_tiles_of p) z e) (alpha-found p (accepted ordinary p r) id w.0 (omega (arith, w.1, (accepted ordinary p r).count, (accepted ordinary p r).alpha_count)))
