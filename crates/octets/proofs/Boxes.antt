-- Laws of boxes: their lengths, and that bytes fewer than 2³² are the bytes of at most one list of boxes.
use mathlib.Core.Path.{◌≡◌, refl, sym, ap, ◌∙◌, subst}
use mathlib.Core.Bool.{Bool, true, false, ◌&&◌, not}
use Rattle.std.specs.Prelude.{Option, None, Some}
use mathlib.Core.List.{List, [], ◌∷◌, ◌++◌, map, flat_map, append_assoc, append-nil}
use Prim.Native.Nat.{ℕ, zero, suc, ◌+◌, ◌*◌, ◌^◌, ◌≤◌, ◌<◌}
use Prim.Native.String.{String}
use native.Mathlib.Nat.{zero-mul, suc-mul}
use native.Mathlib.Omega.{arith}
use lib.Dec.{T, eqb, eqb_refl, T_not}
use lib.ListN.{length, length-append, drop}
use lib.Seq.{drop-append-add}
use Rattle.octets.specs.Numbers.{◌‖◌, be}
use Rattle.octets.specs.Boxes.{Kind, kind_of, kind, tag, Box, box, optional, boxes}
use Rattle.octets.proofs.Lists.{cancel}
use Rattle.octets.proofs.Numbers.{cancel_be}

-- ---- lengths, and how the bytes come apart

boxes-nil : boxes [] ≡ []
unfolding boxes
boxes-nil = refl

pub length_none : length (boxes []) ≡ 0
unfolding boxes
length_none = refl

pub length-boxes : (b : Box) (l : List Box) → length (boxes (b ∷ l)) ≡ 8 + length b.body + length (boxes l)
unfolding boxes
length-boxes b l = omega (arith, length-append b.body (boxes l))

pub boxes-append : (l m : List Box) → boxes (l ++ m) ≡ boxes l ++ boxes m
unfolding boxes
boxes-append [] m = refl
boxes-append (b ∷ l) m =
    let h = be 4 (8 + length b.body) ‖ tag b.type in
    ap (λ (r : List ℕ). h ++ (b.body ++ r)) (boxes-append l m) ∙ ap (λ (r : List ℕ). h ++ r) (sym (append_assoc b.body (boxes l) (boxes m)))

pub length-boxes-append : (l m : List Box) → length (boxes (l ++ m)) ≡ length (boxes l) + length (boxes m)
length-boxes-append l m = ap length (boxes-append l m) ∙ length-append (boxes l) (boxes m)

-- the first box, then the others
pub boxes-cons : (b : Box) (l : List Box) → boxes (b ∷ l) ≡ boxes (b ∷ []) ++ boxes l
boxes-cons b l = boxes-append (b ∷ []) l

-- four bytes are their own type
pub tag-kind_of : (t : List ℕ) → length t ≡ 4 → tag (kind_of t) ≡ t
tag-kind_of (a ∷ b ∷ c ∷ d ∷ []) h = refl
tag-kind_of [] h = absurd (omega arith)
tag-kind_of (a ∷ []) h = absurd (omega arith)
tag-kind_of (a ∷ b ∷ []) h = absurd (omega arith)
tag-kind_of (a ∷ b ∷ c ∷ []) h = absurd (omega arith)
tag-kind_of (a ∷ b ∷ c ∷ d ∷ e ∷ t) h = absurd (omega arith)

pub boxes-map : {A : Type 0} (make : A → Box) (l : List A) → boxes (map make l) ≡ flat_map (λ a. boxes (make a ∷ [])) l
unfolding flat_map
boxes-map make [] = boxes-nil
boxes-map make (a ∷ l) = boxes-cons (make a) (map make l) ∙ ap (λ (r : List ℕ). boxes (make a ∷ []) ++ r) (boxes-map make l)

pub boxes_one : (b : Box) → boxes (b ∷ []) ≡ be 4 (8 + length b.body) ++ (tag b.type ++ b.body)
unfolding boxes
boxes_one b = ap (λ (r : List ℕ). be 4 (8 + length b.body) ++ (tag b.type ++ r)) (append-nil b.body)

-- the bytes of each: the 8 of its size and type, and its body
abbrev pub sizes : List Box → ℕ
sizes [] = 0
sizes (b ∷ l) = 8 + length b.body + sizes l

pub length-sizes : (l : List Box) → length (boxes l) ≡ sizes l
length-sizes [] = length_none
length-sizes (b ∷ l) = omega (arith, length-boxes b l, length-sizes l)

-- boxes whose bodies have one length
pub length-boxes-map : {A : Type 0} (make : A → Box) (k : ℕ) → ((a : A) → length (make a).body ≡ k) → (l : List A)
    → length (boxes (map make l)) ≡ length l * (8 + k)
length-boxes-map make k h [] = omega (arith, length_none, zero-mul (8 + k))
length-boxes-map make k h (a ∷ l) =
    omega (arith, length-boxes (make a) (map make l), h a, length-boxes-map make k h l, suc-mul (length l) (8 + k))

-- behind other boxes, and the size and type of the last, all that is left is its body
pub drop-boxes : (l : List Box) (b : Box) → drop (length (boxes l) + 8) (boxes (l ++ (b ∷ []))) ≡ b.body
drop-boxes l b =
    ap (drop (length (boxes l) + 8)) (boxes-append l (b ∷ []) ∙ ap (λ (r : List ℕ). boxes l ++ r) (boxes_one b)) ∙ drop-append-add (boxes l) _ 8

-- the body of the box at n, empty past the end
unfoldable pub body_at : ℕ → List Box → List ℕ
body_at n [] = []
body_at zero (b ∷ l) = b.body
body_at (suc n) (b ∷ l) = body_at n l

-- a body is no longer than the list of boxes that it stands in
pub length-body_at : (n : ℕ) (l : List Box) → length (body_at n l) ≤ length (boxes l)
unfolding body_at boxes
length-body_at n [] = omega arith
length-body_at zero (b ∷ l) = omega (arith, length-boxes b l)
length-body_at (suc n) (b ∷ l) = omega (arith, length-boxes b l, length-body_at n l)

-- ---- equal bytes are equal boxes

tag_inj : (k l : Kind) → tag k ≡ tag l → k ≡ l
tag_inj k l e =
    let a : k.first ≡ l.first = cc in
    let b : k.second ≡ l.second = cc in
    let c : k.third ≡ l.third = cc in
    let d : k.fourth ≡ l.fourth = cc in
    λ i. record { first = a i; second = b i; third = c i; fourth = d i }

pub boxes_inj : (l m : List Box) → length (boxes l) < 2 ^ 32 → boxes l ≡ boxes m → l ≡ m
unfolding boxes
boxes_inj [] [] s e = refl
boxes_inj [] (c ∷ m) s e = absurd (omega (arith, ap length e))
boxes_inj (b ∷ l) [] s e = absurd (omega (arith, ap length e))
boxes_inj (b ∷ l) (c ∷ m) s e =
    let lb = length-boxes b l in
    let lc = length-boxes c m in
    let le = ap length e in
    let r = cancel_be 4 {n = 8 + length b.body} {m = 8 + length c.body} (omega arith) (omega arith) e in
    let t = cancel (tag b.type) (tag c.type) refl r.1 in
    let x = cancel b.body c.body (omega (arith, r.0)) t.1 in
    let k = tag_inj b.type c.type t.0 in
    let n = boxes_inj l m (omega arith) x.1 in
    λ i. record { type = k i; body = x.0 i } ∷ n i

-- ---- optional boxes in a row, of types that differ, before boxes that begin with type t if there are any

abbrev pub same : Kind → Kind → Bool
same k l = eqb k.first l.first && (eqb k.second l.second && (eqb k.third l.third && eqb k.fourth l.fourth))

and_true : (a b : Bool) → T a → T b → T (a && b)
and_true true true s t = tt
and_true true false s t = absurd t
and_true false b s t = absurd s

and_parts : (a b : Bool) → T (a && b) → T a × T b
and_parts true true t = (tt, tt)
and_parts true false t = absurd t
and_parts false b t = absurd t

same_refl : (k : Kind) → T (same k k)
same_refl k =
    let b = eqb k.second k.second in
    let c = eqb k.third k.third in
    let d = eqb k.fourth k.fourth in
    and_true (eqb k.first k.first) (b && (c && d)) (eqb_refl k.first)
    (and_true b (c && d) (eqb_refl k.second) (and_true c d (eqb_refl k.third) (eqb_refl k.fourth)))

-- the list does not begin with a box of type k
abbrev other : Kind → List Box → Bool
other k [] = true
other k (b ∷ l) = not (same k b.type)

other-optional : (k : Kind) (s : String) (a : Option (List ℕ)) (x : List Box) → T (not (same k (kind s))) → T (other k x) → T (other k (optional s a ‖ x))
other-optional k s None x t h = h
other-optional k s (Some v) x t h = t

clash : (s : String) {v : List ℕ} {x y : List Box} → T (other (kind s) x) → x ≡ box s v ∷ y → ⊥
clash s h e = T_not (same (kind s) (kind s)) (subst (λ (l : List Box). T (other (kind s) l)) e h) (same_refl (kind s))

cancel_optional : (s : String) (a b : Option (List ℕ)) {x y : List Box} → T (other (kind s) x) → T (other (kind s) y) → optional s a ‖ x ≡ optional s b ‖ y → (a ≡ b) × (x ≡ y)
cancel_optional s None None h k e = (refl, e)
cancel_optional s None (Some v) h k e = absurd (clash s h e)
cancel_optional s (Some u) None h k e = absurd (clash s k (sym e))
cancel_optional s (Some u) (Some v) {x} {y} h k e =
    let b : box s u ≡ box s v = cc in
    (ap Some (ap (λ (c : Box). c.body) b), cc)

abbrev pub row : List String → List (Option (List ℕ)) → List Box → List Box
row [] a x = x
row (s ∷ k) [] x = x
row (s ∷ k) (a ∷ l) x = optional s a ‖ row k l x

abbrev clear : Kind → List String → Bool
clear k [] = true
clear k (s ∷ l) = not (same k (kind s)) && clear k l

-- the types of a row differ from each other and from t
abbrev pub apart : List String → String → Bool
apart [] t = true
apart (s ∷ l) t = clear (kind s) l && (not (same (kind s) (kind t)) && apart l t)

pub record Leads (t : String) (x : List Box) : Type 0 where
  pub only : (k : Kind) → T (not (same k (kind t))) → T (other k x)

-- no box, or a box of type t first
pub leads_none : (t : String) → Leads t []
leads_none t = record { only = λ k h. tt }

pub leads_first : (t : String) (x : List ℕ) (l : List Box) → Leads t (box t x ∷ l)
leads_first t x l = record { only = λ k h. h }

other_row : (k : Kind) (l : List String) (a : List (Option (List ℕ))) (x : List Box) → T (clear k l) → T (other k x) → T (other k (row l a x))
other_row k [] a x c o = o
other_row k (s ∷ l) [] x c o = o
other_row k (s ∷ l) (u ∷ a) x c o =
    let r = and_parts (not (same k (kind s))) (clear k l) c in
    other-optional k s u (row l a x) r.0 (other_row k l a x r.1 o)

pub row_inj : (t : String) (l : List String) (a b : List (Option (List ℕ))) (x y : List Box) → T (apart l t) → Leads t x → Leads t y
    → length a ≡ length l → length b ≡ length l → row l a x ≡ row l b y → (a ≡ b) × (x ≡ y)
row_inj t [] [] [] x y h p q m n e = (refl, e)
row_inj t [] (u ∷ a) b x y h p q m n e = absurd (omega arith)
row_inj t [] [] (v ∷ b) x y h p q m n e = absurd (omega arith)
row_inj t (s ∷ l) [] b x y h p q m n e = absurd (omega arith)
row_inj t (s ∷ l) (u ∷ a) [] x y h p q m n e = absurd (omega arith)
row_inj t (s ∷ l) (u ∷ a) (v ∷ b) x y h p q m n e =
    let c = and_parts (clear (kind s) l) (not (same (kind s) (kind t)) && apart l t) h in
    let d = and_parts (not (same (kind s) (kind t))) (apart l t) c.1 in
    let r = cancel_optional s u v (other_row (kind s) l a x c.0 (p.only (kind s) d.0)) (other_row (kind s) l b y c.0 (q.only (kind s) d.0)) e in
    let w = row_inj t l a b x y d.1 p q (omega arith) (omega arith) r.1 in
    (λ i. r.0 i ∷ w.0 i, w.1)
