-- What iloc and mdat say together: the payloads, and with them the samples and their lengths.
use mathlib.Core.Path.{◌≡◌, refl, sym, ap, ◌∙◌}
use mathlib.Core.List.{List, [], ◌∷◌, ◌++◌, map, map-append, flatten, flat_map}
use Prim.Native.Nat.{ℕ, suc, ◌+◌, ◌^◌, ◌<◌}
use native.Mathlib.Omega.{arith}
use lib.ListN.{length, length-map}
use Rattle.octets.specs.Numbers.{◌‖◌, be, total}
use Rattle.octets.proofs.Lists.{cancel, length-flatten, flatten_inj, flat_map_inj}
use Rattle.octets.proofs.Numbers.{be_inj, skip_be}
use Rattle.panel.specs.Panel.{Panel}
use Rattle.panel.specs.Form.{Form}
use Rattle.heif.specs.Items.{shape}
use Rattle.heif.specs.Mdat.{other_payloads, payloads}
use Rattle.heif.specs.Idat.{descriptor}
use Rattle.heif.specs.Iloc.{Location, extents, located, locations, entry, entry_size}
use Rattle.heif.proofs.Mdat.{length-samples, cut}
use Rattle.heif.proofs.Iloc.{locations_runs, length-entry}

-- ---- what is read off an entry: the bytes of its size

abbrev size_bytes : Location → List ℕ
size_bytes l = be 4 l.extent.size

entry_tells_size : (f : Form) (a b : Location) → entry f a ≡ entry f b → size_bytes a ≡ size_bytes b
entry_tells_size f a b e =
    let before : Location → List ℕ = λ l. be 2 l.method ‖ be 2 0 ‖ be 2 1 ‖ be 4 l.extent.offset in
    (cancel (before a) (before b) refl (skip_be f.id a.id b.id e)).1

length-bytes : List ℕ → List ℕ
length-bytes x = be 4 (length x)

located-sizes : (id m at : ℕ) (l : List (List ℕ)) → map size_bytes (located id m (extents at l)) ≡ map length-bytes l
unfolding length-bytes
located-sizes id m at [] = refl
located-sizes id m at (x ∷ l) = ap (λ (r : List (List ℕ)). be 4 (length x) ∷ r) (located-sizes (suc id) m (at + length x) l)

lengths_inj : (l m : List (List ℕ)) → total (map length l) < 2 ^ 32 → total (map length m) < 2 ^ 32 → map length-bytes l ≡ map length-bytes m → map length l ≡ map length m
unfolding length-bytes
lengths_inj [] [] s t e = refl
lengths_inj [] (b ∷ m) s t e = absurd (omega (arith, ap length e))
lengths_inj (a ∷ l) [] s t e = absurd (omega (arith, ap length e))
lengths_inj (a ∷ l) (b ∷ m) s t e =
    let h : be 4 (length a) ≡ be 4 (length b) = cc in
    let r : map length-bytes l ≡ map length-bytes m = cc in
    let x = be_inj 4 {n = length a} {m = length b} (omega arith) (omega arith) h in
    let y = lengths_inj l m (omega arith) (omega arith) r in
    λ i. x i ∷ y i

locations-sizes : (at : ℕ) (p : Panel) → length p.alpha.lengths ≡ (shape p).tiles
    → map size_bytes (locations at p)
    ≡ map length-bytes (cut p.tiles) ‖ (be 4 (length (descriptor p.dims)) ∷ []) ‖ map length-bytes (cut p.alpha) ‖ (be 4 (length (descriptor p.dims)) ∷ [])
    ‖ map length-bytes (other_payloads p)
locations-sizes at p h = ap (map size_bytes) (locations_runs at p h) ∙ simp (map-append, located-sizes)

three : (c a o : List (List ℕ)) → map length-bytes (c ++ (a ++ o)) ≡ map length-bytes c ++ (map length-bytes a ++ map length-bytes o)
three c a o = simp map-append

-- ---- equal entries and equal data are of equal payloads

pub record SamePayloads (p q : Panel) : Type 0 where
  pub tiles : cut p.tiles ≡ cut q.tiles
  pub alpha : cut p.alpha ≡ cut q.alpha
  pub others : other_payloads p ≡ other_payloads q

module _ (p q : Panel) (hp : length p.alpha.lengths ≡ (shape p).tiles) (hq : length q.alpha.lengths ≡ (shape q).tiles) (n : (shape p).tiles ≡ (shape q).tiles) where
  tiles-long : length (cut p.tiles) ≡ length (cut q.tiles)
  tiles-long = length-samples p.tiles.lengths p.tiles.bytes ∙ n ∙ sym (length-samples q.tiles.lengths q.tiles.bytes)

  alpha-long : length (cut p.alpha) ≡ length (cut q.alpha)
  alpha-long = length-samples p.alpha.lengths p.alpha.bytes ∙ hp ∙ n ∙ sym hq ∙ sym (length-samples q.alpha.lengths q.alpha.bytes)

  -- the lengths of all payloads, from the printed entries
  sizes-bytes : (f : Form) (at bt : ℕ) → flat_map (entry f) (locations at p) ≡ flat_map (entry f) (locations bt q) → map length-bytes (payloads p) ≡ map length-bytes (payloads q)
  sizes-bytes f at bt e =
      let s = sym (locations-sizes at p hp) ∙ flat_map_inj (entry f) (entry_size f) (length-entry f) size_bytes (omega arith) (entry_tells_size f) (locations at p) (locations bt q) e ∙ locations-sizes bt q hq in
      let c = cancel (map length-bytes (cut p.tiles)) (map length-bytes (cut q.tiles)) (simp length-map tiles-long) s in
      let d = cancel (be 4 (length (descriptor p.dims)) ∷ []) (be 4 (length (descriptor q.dims)) ∷ []) refl c.1 in
      let a = cancel (map length-bytes (cut p.alpha)) (map length-bytes (cut q.alpha)) (simp length-map alpha-long) d.1 in
      let o = cancel (be 4 (length (descriptor p.dims)) ∷ []) (be 4 (length (descriptor q.dims)) ∷ []) refl a.1 in
      three (cut p.tiles) (cut p.alpha) (other_payloads p) ∙ (λ i. c.0 i ++ (a.0 i ++ o.1 i)) ∙ sym (three (cut q.tiles) (cut q.alpha) (other_payloads q))

  pub same-payloads : (f : Form) (at bt : ℕ) → length (flatten (payloads p)) < 2 ^ 32 → length (flatten (payloads q)) < 2 ^ 32
      → flat_map (entry f) (locations at p) ≡ flat_map (entry f) (locations bt q) → flatten (payloads p) ≡ flatten (payloads q) → SamePayloads p q
  same-payloads f at bt sp sq e d =
      let l = lengths_inj (payloads p) (payloads q) (omega (arith, length-flatten (payloads p))) (omega (arith, length-flatten (payloads q))) (sizes-bytes f at bt e) in
      let x = flatten_inj (payloads p) (payloads q) l d in
      let c = cancel (cut p.tiles) (cut q.tiles) tiles-long x in
      let a = cancel (cut p.alpha) (cut q.alpha) alpha-long c.1 in
      record { tiles = c.0; alpha = a.0; others = a.1 }
