-- colr tells the colour that is stated, and an alternate one; and how many there are and how long.
use mathlib.Core.Path.{◌≡◌, refl, sym, ap, ◌∙◌}
use mathlib.Core.Bool.{Bool, true, false, cond}
use Rattle.std.specs.Prelude.{Option, None, Some, is_some}
use mathlib.Core.List.{List, [], ◌∷◌}
use Prim.Native.Nat.{ℕ, ◌+◌}
use native.Mathlib.Omega.{arith}
use lib.ListN.{length, get_or}
use Rattle.octets.specs.Numbers.{◌‖◌, be, text}
use Rattle.octets.specs.Boxes.{Box, box, optional, boxes}
use Rattle.octets.proofs.Lists.{cancel}
use Rattle.octets.proofs.Boxes.{body_at, length_none, length-boxes}
use Rattle.panel.specs.Types.{primaries_code, transfer_code, matrix_code, unspecified}
use Rattle.panel.specs.Panel.{Colour}
use Rattle.panel.specs.Agreement.{stated, filled, shown}
use Rattle.panel.specs.declared.color.Cicp.{Cicp}
use Rattle.panel.proofs.Parts.{some_inj, none-some}
use Rattle.panel.proofs.Codes.{primaries_inj, transfer_inj, matrix_inj}
use Rattle.heif.specs.Colr.{nclx_payload, first_colr, second_colr, alternate_colrs, alternates, first_colr_size, second_colr_count}
use Rattle.heif.specs.Colr.{second_colr_size, alternates_count, stated_size, alternates_size}

-- ---- colour

first_byte : {x y : List ℕ} → x ≡ y → get_or x 0 0 ≡ get_or y 0 0
first_byte e = ap (λ (l : List ℕ). get_or l 0 0) e

range_inj : (a b : Bool) → be 1 (cond a 0x80 0x00) ≡ be 1 (cond b 0x80 0x00) → a ≡ b
range_inj true true e = refl
range_inj false false e = refl
range_inj true false e = let z : ◌≡◌ {A = ℕ} 128 0 = first_byte e in absurd (omega arith)
range_inj false true e = let z : ◌≡◌ {A = ℕ} 0 128 = first_byte e in absurd (omega arith)

pub nclx_inj : (c d : Cicp) → nclx_payload c ≡ nclx_payload d → c ≡ d
nclx_inj c d e =
    let t = cancel (text "nclx") (text "nclx") refl e in
    let p = cancel (be 2 (primaries_code c.primaries)) (be 2 (primaries_code d.primaries)) refl t.1 in
    let q = cancel (be 2 (transfer_code c.transfer)) (be 2 (transfer_code d.transfer)) refl p.1 in
    let m = cancel (be 2 (matrix_code c.matrix)) (be 2 (matrix_code d.matrix)) refl q.1 in
    let x = primaries_inj c.primaries d.primaries p.0 in
    let y = transfer_inj c.transfer d.transfer q.0 in
    let z = matrix_inj c.matrix d.matrix m.0 in
    let f = range_inj c.full_range d.full_range m.1 in
    λ i. record { primaries = x i; transfer = y i; matrix = z i; full_range = f i }

prof_inj : (i j : List ℕ) → text "prof" ‖ i ≡ text "prof" ‖ j → i ≡ j
prof_inj i j e = cc

nclx_prof : (c : Cicp) (i : List ℕ) → nclx_payload c ≡ text "prof" ‖ i → ⊥
nclx_prof c i e = let h : ◌≡◌ {A = ℕ} 110 112 = first_byte e in omega arith

-- code points first, and a profile or none behind them
both_inj : (c d : Cicp) (i j : Option (List ℕ)) → nclx_payload c ≡ nclx_payload d → second_colr (Some c) i ≡ second_colr (Some d) j
    → ◌≡◌ {A = Colour} (record { cicp = Some c; icc = i }) (record { cicp = Some d; icc = j })
both_inj c d None None e s = ap (λ (x : Cicp). record { cicp = Some x; icc = None }) (nclx_inj c d e)
both_inj c d None (Some j) e s = absurd (none-some s)
both_inj c d (Some i) None e s = absurd (none-some (sym s))
both_inj c d (Some i) (Some j) e s =
    let x = nclx_inj c d e in
    let y = prof_inj i j (some_inj s) in
    λ k. record { cicp = Some (x k); icc = Some (y k) }

pub colour_inj : (c d : Option Cicp) (i j : Option (List ℕ)) → first_colr c i ≡ first_colr d j → second_colr c i ≡ second_colr d j → stated c i ≡ stated d j
colour_inj (Some c) (Some d) i j e s = both_inj c d i j e s
colour_inj (Some c) None i None e s = both_inj c unspecified i None e s
colour_inj (Some c) None i (Some j) e s = absurd (nclx_prof c j e)
colour_inj None (Some d) None j e s = both_inj unspecified d None j e s
colour_inj None (Some d) (Some i) j e s = absurd (nclx_prof d i (sym e))
colour_inj None None None None e s = refl
colour_inj None None None (Some j) e s = absurd (nclx_prof unspecified j e)
colour_inj None None (Some i) None e s = absurd (nclx_prof unspecified i (sym e))
colour_inj None None (Some i) (Some j) e s = ap (λ (x : List ℕ). stated None (Some x)) (prof_inj i j e)

-- ---- alternate colour

optional_inj : (a b : Option (List ℕ)) → optional "colr" a ≡ optional "colr" b → a ≡ b
optional_inj None None e = refl
optional_inj None (Some y) e = absurd (omega (arith, ap length e))
optional_inj (Some x) None e = absurd (omega (arith, ap length e))
optional_inj (Some x) (Some y) e = let b : box "colr" x ≡ box "colr" y = cc in ap Some (ap (λ (c : Box). c.body) b)

tail_of : List Box → List Box
tail_of [] = []
tail_of (b ∷ l) = l

alternate_inj : (c d : Option Cicp) (i j : Option (List ℕ)) → alternate_colrs c i ≡ alternate_colrs d j → filled c i ≡ filled d j
unfolding body_at tail_of
alternate_inj (Some c) (Some d) i j e =
    ap Some (both_inj c d i j (ap (body_at 0) e) (optional_inj (second_colr (Some c) i) (second_colr (Some d) j) (ap tail_of e)))
alternate_inj (Some c) None i None e = absurd (omega (arith, ap length e))
alternate_inj (Some c) None i (Some j) e = absurd (nclx_prof c j (ap (body_at 0) e))
alternate_inj None (Some d) None j e = absurd (omega (arith, ap length e))
alternate_inj None (Some d) (Some i) j e = absurd (nclx_prof d i (sym (ap (body_at 0) e)))
alternate_inj None None None None e = refl
alternate_inj None None None (Some j) e = absurd (omega (arith, ap length e))
alternate_inj None None (Some i) None e = absurd (omega (arith, ap length e))
alternate_inj None None (Some i) (Some j) e = ap (λ (x : List ℕ). filled None (Some x)) (prof_inj i j (ap (body_at 0) e))

-- no alternate colour is an empty one
cicp_in : Option Colour → Option Cicp
cicp_in None = None
cicp_in (Some a) = a.cicp

icc_in : Option Colour → Option (List ℕ)
icc_in None = None
icc_in (Some a) = a.icc

alternates_parts : (a : Option Colour) → alternates a ≡ alternate_colrs (cicp_in a) (icc_in a)
unfolding cicp_in icc_in
alternates_parts None = refl
alternates_parts (Some a) = refl

shown_parts : (t : List ℕ) (a : Option Colour) → shown (Some t) a ≡ filled (cicp_in a) (icc_in a)
unfolding cicp_in icc_in
shown_parts t None = refl
shown_parts t (Some a) = refl

pub alternates_inj : (t u : List ℕ) (a b : Option Colour) → alternates a ≡ alternates b → shown (Some t) a ≡ shown (Some u) b
alternates_inj t u a b e =
    shown_parts t a
    ∙ alternate_inj (cicp_in a) (cicp_in b) (icc_in a) (icc_in b) (sym (alternates_parts a) ∙ e ∙ alternates_parts b)
    ∙ sym (shown_parts u b)

-- ---- how many, and how many bytes

pub length-first_colr : (c : Option Cicp) (i : Option (List ℕ)) → 8 + length (first_colr c i) ≡ first_colr_size c i
length-first_colr (Some c) i = refl
length-first_colr None (Some i) = omega arith
length-first_colr None None = refl

pub length-second_colr : (c : Option Cicp) (i : Option (List ℕ)) → length (optional "colr" (second_colr c i)) ≡ second_colr_count c i
length-second_colr (Some c) None = refl
length-second_colr (Some c) (Some i) = refl
length-second_colr None i = refl

pub length-boxes-second_colr : (c : Option Cicp) (i : Option (List ℕ)) → length (boxes (optional "colr" (second_colr c i))) ≡ second_colr_size c i
length-boxes-second_colr (Some c) None = length_none
length-boxes-second_colr (Some c) (Some i) = simp (length-boxes, length_none) (omega arith)
length-boxes-second_colr None i = length_none

pub length-alternates : (a : Option Colour) → length (alternates a) ≡ alternates_count a
length-alternates None = refl
length-alternates (Some a) = stated a.cicp a.icc
  where
    stated : (c : Option Cicp) (i : Option (List ℕ)) → length (alternate_colrs c i) ≡ cond (is_some c) 1 0 + cond (is_some i) 1 0
    stated (Some c) None = refl
    stated (Some c) (Some i) = refl
    stated None (Some i) = refl
    stated None None = refl

pub length-boxes-alternates : (a : Option Colour) → length (boxes (alternates a)) ≡ alternates_size a
length-boxes-alternates None = length_none
length-boxes-alternates (Some a) = stated a.cicp a.icc
  where
    stated : (c : Option Cicp) (i : Option (List ℕ)) → length (boxes (alternate_colrs c i)) ≡ stated_size c i
    stated (Some c) None = simp (length-boxes, length_none)
    stated (Some c) (Some i) = simp (length-boxes, length_none) (omega arith)
    stated None (Some i) = simp (length-boxes, length_none) (omega arith)
    stated None None = length_none
