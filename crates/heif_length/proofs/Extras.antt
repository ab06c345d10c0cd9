-- The lists of a panel's extras: there is one, made part by part, and the others are that one in another order.
use mathlib.Core.Path.{◌≡◌, refl, sym, ap, subst, ◌∙◌}
use mathlib.Core.Bool.{Bool, true, false, true≢false, cond}
use Rattle.std.specs.Prelude.{◌&&◌, eqb, Option, None, Some, is_some, IsPermutation}
use mathlib.Core.List.{List, [], ◌∷◌, ◌++◌}
use Prim.Native.Nat.{ℕ, ◌*◌, ◌≤◌}
use native.Mathlib.Omega.{arith}
use lib.ListN.{length}
use borrow.Author.Tests.{eqb-true, eq-eqb}
use Rattle.std.proofs.lemmas.List.Sums.{sum_by-cons, sum_by-append}
use Rattle.std.proofs.lemmas.List.Sorted.{IsPermutation-refl, IsPermutation-sym, IsPermutation-trans, IsPermutation-cons, IsPermutation-middle, sum_by-IsPermutation}
use Rattle.octets.specs.Numbers.{◌‖◌}
use Rattle.panel.specs.Panel.{Colour, Gain, Panel}
use Rattle.panel.specs.Parts.{given, tone_of}
use Rattle.panel.specs.declared.VisibleSize.{VisibleSize}
use Rattle.panel.specs.declared.color.Cicp.{Cicp}
use Rattle.heif_length.specs.Extras.{Extra, large_picture, irot, imir, light_level, visible_size, exif, icc_alone, icc_beside_cicp, gain_map, tone_map, alternate_cicp, alternate_icc}
use Rattle.heif_length.specs.Extras.{◌has_bytes◌, gain_has_bytes, ◌has◌, same, once, times, ◌lists◌}

-- ---- whether two extras are the same

once_itself : (x : Extra) → once x x ≡ 1
once_itself x = grind arith

once_other : (x y : Extra) → (x ≡ y → ⊥) → once x y ≡ 0
once_other x y n = grind (arith, n)

-- ---- lists that have each extra as often

-- where one stands
record Found (x : Extra) (l : List Extra) : Type 0 where
  before : List Extra
  behind : List Extra
  is : l ≡ before ++ x ∷ behind

found : (x : Extra) (l : List Extra) → 1 ≤ times x l → Found x l
found x [] h = absurd (omega arith)
found x (y ∷ l) h = go (same x y) (λ n. found x l (omega (arith, sum_by-cons (once x) y l, once_other x y n)))
  where
    go : Dec (x ≡ y) → ((x ≡ y → ⊥) → Found x l) → Found x (y ∷ l)
    go (yes e) later = record { before = []; behind = l; is = cc }
    go (no n) later = let f = later n in record { before = y ∷ f.before; behind = f.behind; is = ap (λ k. y ∷ k) f.is }

-- they are each other in another order
same_times : (l m : List Extra) → ((x : Extra) → times x l ≡ times x m) → IsPermutation l m
same_times [] [] h = IsPermutation-refl []
same_times [] (y ∷ m) h = absurd (omega (arith, h y, sum_by-cons (once y) y m, once_itself y))
same_times (y ∷ l) m h =
    let f = found y m (omega (arith, h y, sum_by-cons (once y) y l, once_itself y)) in
    let rest = f.before ++ f.behind in
    let counted = λ (x : Extra). ap (times x) f.is in
    let less : (x : Extra) → times x l ≡ times x rest = λ x. omega (
      arith,
      h x,
      counted x,
      sum_by-cons (once x) y l,
      sum_by-append (once x) f.before (y ∷ f.behind),
      sum_by-cons (once x) y f.behind,
      sum_by-append (once x) f.before f.behind,
    ) in
    let moved = IsPermutation-trans _ _ _ (IsPermutation-cons y l rest (same_times l rest less)) (IsPermutation-sym _ _ (IsPermutation-middle f.before y f.behind)) in
    subst (IsPermutation (y ∷ l)) (sym f.is) moved

-- a list in another order lists the same panel's extras
pub reordered : (p : Panel) (l m : List Extra) → IsPermutation l m → l lists p → m lists p
reordered p l m o h x = sum_by-IsPermutation (once x) l m o ∙ h x

-- and there is no other list of them
pub only_reordered : (p : Panel) (l m : List Extra) → l lists p → m lists p → IsPermutation l m
only_reordered p l m h k = same_times l m (λ x. h x ∙ sym (k x))

-- ---- one list, part by part

-- of n tiles in a picture
abbrev pub visible_extras : ℕ → Option VisibleSize → List Extra
visible_extras n None = []
visible_extras n (Some v) = visible_size n ∷ []

abbrev pub exif_extras : Option (List ℕ) → List Extra
exif_extras None = []
exif_extras (Some e) = exif (length e) ∷ []

abbrev pub colour_extras : Option Cicp → Option (List ℕ) → List Extra
colour_extras cicp None = []
colour_extras None (Some i) = icc_alone (length i) ∷ []
colour_extras (Some c) (Some i) = icc_beside_cicp (length i) ∷ []

abbrev pub profile_extras : Option (List ℕ) → List Extra
profile_extras None = []
profile_extras (Some i) = alternate_icc (length i) ∷ []

abbrev pub alternate_extras : Option Colour → List Extra
alternate_extras None = []
alternate_extras (Some a) = given (is_some a.cicp) (alternate_cicp ∷ []) ‖ profile_extras a.icc

-- an alternate colour is written only with a tone map
abbrev pub tone_extras : Option (List ℕ) → Option Colour → List Extra
tone_extras None alternate = []
tone_extras (Some t) alternate = tone_map (length t) ∷ alternate_extras alternate

abbrev pub gain_extras : Option Gain → List Extra
gain_extras None = []
gain_extras (Some g) = gain_map (length g.hvcc) (length g.sample) (length g.xmp) ∷ tone_extras g.tone g.alternate

abbrev pub extras : Panel → List Extra
extras p =
    given (p has large_picture) (large_picture ∷ [])
    ‖ given (p has irot) (irot ∷ [])
    ‖ given (p has imir) (imir ∷ [])
    ‖ given (p has light_level) (light_level ∷ [])
    ‖ visible_extras (length p.tiles.lengths) p.visible
    ‖ exif_extras p.metadata.exif
    ‖ colour_extras p.colour.cicp p.colour.icc
    ‖ gain_extras p.gain

-- ---- it lists the panel's extras

times-given : (x : Extra) (b : Bool) (y : Extra) → times x (given b (y ∷ [])) ≡ once x y * cond b 1 0
times-given x true y = omega arith
times-given x false y = omega arith

-- where a test decides whether they are the same
once_by : (x y : Extra) (b : Bool) → (b ≡ true → x ≡ y) → (x ≡ y → b ≡ true) → once x y ≡ cond b 1 0
once_by x y true f g = rw (sym (f refl)) (once_itself x)
once_by x y false f g = once_other x y (λ e. absurd (true≢false (sym (g e))))

-- those of one kind are told by their number
once_at : (kind : ℕ → Extra) → ((k n : ℕ) → kind k ≡ kind n → k ≡ n) → (k n : ℕ) → once (kind k) (kind n) ≡ cond (eqb n k) 1 0
once_at kind told k n = once_by (kind k) (kind n) (eqb n k) (λ e. ap kind (sym (eqb-true n k e))) (λ e. eq-eqb n k (sym (told k n e)))

-- and a gain map by three
once_gain : (r s x r' s' x' : ℕ) → once (gain_map r s x) (gain_map r' s' x') ≡ cond (eqb r' r && eqb s' s && eqb x' x) 1 0
once_gain r s x r' s' x' = once_by _ _ _ (λ e. grind (arith, e)) told
  where
    told : gain_map r s x ≡ gain_map r' s' x' → (eqb r' r && eqb s' s && eqb x' x) ≡ true
    told e = let a : r ≡ r' = cc in let b : s ≡ s' = cc in let c : x ≡ x' = cc in grind (arith, a, b, c)

visible_size-times : (n : ℕ) (p : Panel) → times (visible_size n) (visible_extras (length p.tiles.lengths) p.visible) ≡ cond (p has (visible_size n)) 1 0
visible_size-times n p = grind (arith, once_at visible_size (λ k n e. cc))

exif-times : (k : ℕ) (e : Option (List ℕ)) → times (exif k) (exif_extras e) ≡ cond (e has_bytes k) 1 0
exif-times k e = grind (arith, once_at exif (λ k n e. cc))

icc_alone-times : (k : ℕ) (p : Panel) → times (icc_alone k) (colour_extras p.colour.cicp p.colour.icc) ≡ cond (p has (icc_alone k)) 1 0
icc_alone-times k p = grind (arith, once_at icc_alone (λ k n e. cc))

icc_beside_cicp-times : (k : ℕ) (p : Panel) → times (icc_beside_cicp k) (colour_extras p.colour.cicp p.colour.icc) ≡ cond (p has (icc_beside_cicp k)) 1 0
icc_beside_cicp-times k p = grind (arith, once_at icc_beside_cicp (λ k n e. cc))

gain_map-times : (r s x : ℕ) (g : Option Gain) → times (gain_map r s x) (gain_extras g) ≡ cond (gain_has_bytes g r s x) 1 0
gain_map-times r s x g = grind (arith, once_gain)

tone_map-times : (t : ℕ) (g : Option Gain) → times (tone_map t) (gain_extras g) ≡ cond (tone_of g has_bytes t) 1 0
tone_map-times t g = grind (arith, once_at tone_map (λ k n e. cc))

pub extras_listed : (p : Panel) → extras p lists p
extras_listed p large_picture = simp (sum_by-append, times-given) (grind arith)
extras_listed p irot = simp (sum_by-append, times-given) (grind arith)
extras_listed p imir = simp (sum_by-append, times-given) (grind arith)
extras_listed p light_level = simp (sum_by-append, times-given) (grind arith)
extras_listed p (visible_size n) = simp (sum_by-append, times-given, visible_size-times) (grind arith)
extras_listed p (exif e) = simp (sum_by-append, times-given, exif-times) (grind arith)
extras_listed p (icc_alone c) = simp (sum_by-append, times-given, icc_alone-times) (grind arith)
extras_listed p (icc_beside_cicp c) = simp (sum_by-append, times-given, icc_beside_cicp-times) (grind arith)
extras_listed p (gain_map r s x) = simp (sum_by-append, times-given, gain_map-times) (grind arith)
extras_listed p (tone_map t) = simp (sum_by-append, times-given, tone_map-times) (grind arith)
extras_listed p alternate_cicp = simp (sum_by-append, times-given) (grind arith)
extras_listed p (alternate_icc c) = simp (sum_by-append, times-given) (grind (arith, once_at alternate_icc (λ k n e. cc)))
