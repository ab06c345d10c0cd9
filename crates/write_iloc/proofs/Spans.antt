-- Extents by their sizes, and runs of entries, one behind the other.
use mathlib.Core.Path.{◌≡◌, refl, sym, ap, ◌∙◌}
use mathlib.Core.List.{List, [], ◌∷◌, ◌++◌, map, flat_map}
use Prim.Native.Nat.{ℕ, suc, ◌+◌}
use native.Mathlib.Nat.{add-zero}
use native.Mathlib.Numerals.{add-one}
use native.Mathlib.Omega.{arith}
use lib.ListN.{length}
use Rattle.octets.specs.Numbers.{total}
use Rattle.octets.proofs.Lists.{flat_map-append, flat_map_one}
use Rattle.panel.specs.Form.{Form}
use Rattle.heif.specs.Iloc.{Extent, Location, extents, located, entry}
use Rattle.write_iloc.specs.Spans.{spans, location, entries}

pub extents-spans : (at : ℕ) (l : List (List ℕ)) → extents at l ≡ spans at (map length l)
unfolding spans
extents-spans at [] = refl
extents-spans at (x ∷ l) = ap (λ (r : List Extent). record { offset = at; size = length x } ∷ r) (extents-spans (at + length x) l)

-- ---- runs of extents, one behind the other

spans-append : (at : ℕ) (x y : List ℕ) → spans at (x ++ y) ≡ spans at x ++ spans (at + total x) y
unfolding spans
spans-append at [] y = ap (λ (k : ℕ). spans k y) (sym (add-zero at))
spans-append at (n ∷ x) y =
    let h : at + n + total x ≡ at + (n + total x) = omega arith in
    ap (λ (r : List Extent). record { offset = at; size = n } ∷ r) (spans-append (at + n) x y ∙ ap (λ (k : ℕ). spans (at + n) x ++ spans k y) h)

pub length-spans : (at : ℕ) (l : List ℕ) → length (spans at l) ≡ length l
unfolding spans
length-spans at [] = refl
length-spans at (n ∷ l) = ap suc (length-spans (at + n) l)

located-append : (id method : ℕ) (x y : List Extent) → located id method (x ++ y) ≡ located id method x ++ located (id + length x) method y
located-append id method [] y = ap (λ (k : ℕ). located k method y) (sym (add-zero id))
located-append id method (e ∷ x) y =
    let h : suc id + length x ≡ id + suc (length x) = omega arith in
    ap (λ (r : List Location). record { id = id; method = method; extent = e } ∷ r) (located-append (suc id) method x y ∙ ap (λ (k : ℕ). located (suc id) method x ++ located k method y) h)

pub entries_append : (f : Form) (id at : ℕ) (x y : List ℕ) {j b : ℕ} → j ≡ id + length x → b ≡ at + total x
    → entries f id at x ++ entries f j b y ≡ entries f id at (x ++ y)
entries_append f id at x y {j} {b} hj hb =
    let k : j ≡ id + length (spans at x) = hj ∙ ap (λ (n : ℕ). id + n) (sym (length-spans at x)) in
    (λ i. entries f id at x ++ entries f (k i) (hb i) y)
    ∙ sym (flat_map-append (entry f) (located id 0 (spans at x)) (located (id + length (spans at x)) 0 (spans (at + total x) y)))
    ∙ ap (flat_map (entry f)) (sym (located-append id 0 (spans at x) (spans (at + total x) y)) ∙ ap (located id 0) (sym (spans-append at x y)))

-- one entry
pub entries_one : (f : Form) (id at n : ℕ) → entry f (location id 0 at n) ≡ entries f id at (n ∷ [])
unfolding spans
entries_one f id at n = sym (flat_map_one (entry f) (location id 0 at n))

-- none
pub entries_none : (f : Form) (id at : ℕ) → [] ≡ entries f id at []
unfolding spans flat_map
entries_none f id at = refl

-- one more in front
pub entries_more : (f : Form) (id at n : ℕ) (l : List ℕ) {b : ℕ} → b ≡ at + n → entries f id at (n ∷ l) ≡ entry f (location id 0 at n) ++ entries f (id + 1) b l
unfolding spans flat_map
entries_more f id at n l h = rw (add-one, h) refl
