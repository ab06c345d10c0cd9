-- Laws of lists that the library does not have: cancelling fronts of equal length, a choice of two, sums, what bytes begin with, and lists printed element by element.
use mathlib.Core.Path.{◌≡◌, refl, sym, ap, ◌∙◌}
use mathlib.Core.Bool.{Bool, true, false, cond, ◌&&◌}
use mathlib.Core.List.{List, [], ◌∷◌, ◌++◌, map, flatten, flat_map, append_assoc, append-nil}
use Prim.Native.Nat.{ℕ, ◌+◌, ◌*◌, ◌≤◌, ◌<◌}
use native.Mathlib.Nat.{zero-mul, suc-mul}
use native.Mathlib.Numerals.{add-one}
use native.Mathlib.Omega.{arith}
use lib.Dec.{eqb}
use lib.ListN.{length, length-append, take, drop, get_or, take-append-drop}
use lib.Seq.{take-suc, drop-cons}
use borrow.Author.Tests.{eqb-true, eq-eqb, ne_eqb}
use Rattle.std.specs.List.{starts_with, sum}
use Rattle.std.proofs.lemmas.List.Sums.{sum_by-cons}
use Rattle.octets.specs.Numbers.{total, ◌begins_with◌}
use Rattle.octets.proofs.Tests.{and_both, and-second_false}

-- ---- fronts of equal length

pub cancel : {A : Type 0} (a b : List A) {x y : List A} → length a ≡ length b → a ++ x ≡ b ++ y → (a ≡ b) × (x ≡ y)
cancel [] [] l e = (refl, e)
cancel [] (b ∷ t) l e = absurd (omega arith)
cancel (a ∷ s) [] l e = absurd (omega arith)
cancel (a ∷ s) (b ∷ t) {x} {y} l e =
    let h : a ≡ b = cc in
    let e' : s ++ x ≡ t ++ y = cc in
    let r = cancel s t (omega arith) e' in
    (cc, r.1)

-- ---- a choice of two

pub length-cond : {A : Type 0} (b : Bool) (x y : List A) → length (cond b x y) ≡ cond b (length x) (length y)
length-cond true x y = refl
length-cond false x y = refl

-- ---- choices

-- a number or nothing, as so many times one or nothing
pub cond-mul : (b : Bool) (n : ℕ) → cond b n 0 ≡ n * cond b 1 0
cond-mul true n = omega arith
cond-mul false n = omega arith

-- ---- sums

-- the library's sum is the definition's
pub sum_is_total : (l : List ℕ) → sum l ≡ total l
sum_is_total [] = refl
sum_is_total (n ∷ l) = omega (arith, sum_is_total l, sum_by-cons (λ x. x) n l)

pub total-append : (x y : List ℕ) → total (x ++ y) ≡ total x + total y
total-append [] y = omega arith
total-append (a ∷ x) y = omega (arith, total-append x y)

pub total-step : (l : List ℕ) (i : ℕ) → i < length l → total (take (i + 1) l) ≡ total (take i l) + get_or l i 0
total-step l i h = rw (add-one, take-suc l i 0) (omega (arith, total-append (take i l) (get_or l i 0 ∷ [])))

pub total-take : (l : List ℕ) (i : ℕ) → total (take i l) ≤ total l
total-take l i = omega (arith, total-append (take i l) (drop i l), ap total (take-append-drop i l))

-- what is left of a list within it: the element, and what is left behind it
pub drop-step : (l : List ℕ) (i : ℕ) → i < length l → drop i l ≡ get_or l i 0 ∷ drop (i + 1) l
drop-step l i h = rw (add-one, drop-cons l i 0)

pub total_left : (l : List ℕ) (i : ℕ) → i < length l → total (drop i l) ≡ get_or l i 0 + total (drop (i + 1) l)
total_left l i h = ap total (drop-step l i h)

-- ---- what bytes begin with

-- a front and whatever stands behind it
pub begins_append : (front l : List ℕ) → front ++ l begins_with front ≡ true
begins_append [] l = refl
begins_append (m ∷ front) l = rw (eq-eqb m m refl) (begins_append front l)

-- and nothing else
pub begins_front : (l front : List ℕ) → l begins_with front ≡ true → l ≡ front ++ drop (length front) l
begins_front l [] e = refl
begins_front [] (m ∷ front) e = absurd (let z : ◌≡◌ {A = ℕ} 0 1 = cc in omega arith)
begins_front (b ∷ l) (m ∷ front) e =
    let both = and_both (eqb m b) (l begins_with front) e in
    cc (eqb-true m b both.0, begins_front l front both.1)

pub begins_short : (l front : List ℕ) → length l < length front → l begins_with front ≡ false
begins_short l [] h = absurd (omega arith)
begins_short [] (m ∷ front) h = refl
begins_short (b ∷ l) (m ∷ front) h = and-second_false (eqb m b) (l begins_with front) (begins_short l front (omega arith))

-- as the library's starts_with tells it
pub begins_started : (l front : List ℕ) → starts_with eqb l front ≡ l begins_with front
begins_started [] [] = refl
begins_started [] (m ∷ front) = refl
begins_started (b ∷ l) [] = refl
begins_started (b ∷ l) (m ∷ front) = ap (λ (r : Bool). eqb m b && r) (begins_started l front)

-- from an index on, within both: the byte there decides, or the bytes behind it do
module _ (l front : List ℕ) (i : ℕ) (h : i < length l) (k : i < length front) where
  begins_step : drop i l begins_with drop i front ≡ (eqb (get_or front i 0) (get_or l i 0) && drop (i + 1) l begins_with drop (i + 1) front)
  begins_step = rw (drop-step l i h, drop-step front i k)

  pub begins_differs : (get_or l i 0 ≡ get_or front i 0 → ⊥) → drop i l begins_with drop i front ≡ false
  begins_differs d = begins_step ∙ rw (ne_eqb (get_or front i 0) (get_or l i 0) (λ e. d (sym e)))

  pub begins_next : get_or l i 0 ≡ get_or front i 0 → drop i l begins_with drop i front ≡ drop (i + 1) l begins_with drop (i + 1) front
  begins_next e = begins_step ∙ rw (eq-eqb (get_or front i 0) (get_or l i 0) (sym e))

-- ---- lists of lists

pub length-flatten : (l : List (List ℕ)) → length (flatten l) ≡ total (map length l)
unfolding flatten
length-flatten [] = refl
length-flatten (x ∷ l) = length-append x (flatten l) ∙ ap (λ (n : ℕ). length x + n) (length-flatten l)

pub flatten-append : (l m : List (List ℕ)) → flatten (l ++ m) ≡ flatten l ++ flatten m
unfolding flatten
flatten-append [] m = refl
flatten-append (x ∷ l) m = ap (λ (r : List ℕ). x ++ r) (flatten-append l m) ∙ sym (append_assoc x (flatten l) (flatten m))

pub flatten_one : (x : List ℕ) → flatten (x ∷ []) ≡ x
unfolding flatten
flatten_one x = append-nil x

-- lists of equal lengths are told apart by what they join to
pub flatten_inj : (l m : List (List ℕ)) → map length l ≡ map length m → flatten l ≡ flatten m → l ≡ m
unfolding flatten
flatten_inj [] [] n e = refl
flatten_inj [] (b ∷ m) n e = absurd (omega (arith, ap length n))
flatten_inj (a ∷ l) [] n e = absurd (omega (arith, ap length n))
flatten_inj (a ∷ l) (b ∷ m) n e =
    let h : length a ≡ length b = cc in
    let t : map length l ≡ map length m = cc in
    let r = cancel a b h e in
    let w = flatten_inj l m t r.1 in
    λ i. r.0 i ∷ w i

-- ---- elements printed one after the other, each in k bytes

pub flat_map_one : {A : Type 0} (print : A → List ℕ) (a : A) → flat_map print (a ∷ []) ≡ print a
unfolding flat_map
flat_map_one print a = append-nil (print a)

pub flat_map-map : {A B : Type 0} (print : B → List ℕ) (make : A → B) (l : List A) → flat_map print (map make l) ≡ flat_map (λ a. print (make a)) l
unfolding flat_map
flat_map-map print make [] = refl
flat_map-map print make (a ∷ l) = ap (λ (r : List ℕ). print (make a) ++ r) (flat_map-map print make l)

module _ {A : Type 0} (print : A → List ℕ) where
  pub flat_map-append : (l m : List A) → flat_map print (l ++ m) ≡ flat_map print l ++ flat_map print m
  unfolding flat_map
  flat_map-append [] m = refl
  flat_map-append (a ∷ l) m = ap (λ (r : List ℕ). print a ++ r) (flat_map-append l m) ∙ sym (append_assoc (print a) (flat_map print l) (flat_map print m))

  module _ (k : ℕ) (wide : (a : A) → length (print a) ≡ k) where
    pub length-flat_map : (l : List A) → length (flat_map print l) ≡ length l * k
    unfolding flat_map
    length-flat_map [] = sym (zero-mul k)
    length-flat_map (a ∷ l) = omega (arith, length-append (print a) (flat_map print l), wide a, length-flat_map l, suc-mul (length l) k)

    -- what is read off each print is the same on both sides
    pub flat_map_inj : {B : Type 0} (read : A → B) → 1 ≤ k → ((a b : A) → print a ≡ print b → read a ≡ read b) → (l m : List A) → flat_map print l ≡ flat_map print m → map read l ≡ map read m
    unfolding flat_map
    flat_map_inj read h same [] [] e = refl
    flat_map_inj read h same [] (b ∷ m) e = absurd (omega (arith, wide b, ap length e, length-append (print b) (flat_map print m)))
    flat_map_inj read h same (a ∷ l) [] e = absurd (omega (arith, wide a, ap length e, length-append (print a) (flat_map print l)))
    flat_map_inj read h same (a ∷ l) (b ∷ m) e =
        let r = cancel (print a) (print b) (wide a ∙ sym (wide b)) e in
        let w = flat_map_inj read h same l m r.1 in
        λ i. same a b r.0 i ∷ w i
