-- Laws of `be`, all over the width k: 8, 16 and 32 bits are k = 1, 2 and 4; and the width of a product.
use mathlib.Core.Path.{◌≡◌, refl, sym, ap, ◌∙◌, subst⁻¹}
use mathlib.Core.List.{List, [], ◌∷◌, ◌++◌}
use Prim.Native.Nat.{ℕ, zero, suc, ◌+◌, ◌*◌, ◌/◌, ◌%◌, ◌^◌, ◌<◌}
use native.Mathlib.Nat.{mod-eq_of_lt, zero-add, suc-add, le_of_lt, lt_of_le_of_lt, mul-le-mul_left, mul-lt-mul_of_pos_right}
use native.Mathlib.Omega.{arith}
use lib.ListN.{length, drop}
use lib.Seq.{drop-append_seam}
use lib.Pow.{mod-pow-add, mod-mod-pow, shr-shr, field, pow_pos, pow-add}
use Rattle.octets.specs.Numbers.{◌‖◌, be, value}
use Rattle.octets.proofs.Lists.{cancel}

pub length-be : (k n : ℕ) → length (be k n) ≡ k
length-be zero n = refl
length-be (suc k) n = ap suc (length-be k n)

-- k bytes say the number modulo 2 to the 8 k
be-mod_inj : (k n m : ℕ) → be k n ≡ be k m → n % 2 ^ (8 * k) ≡ m % 2 ^ (8 * k)
be-mod_inj zero n m e = omega arith
be-mod_inj (suc k) n m e =
    let h : n / 2 ^ (8 * k) % 256 ≡ m / 2 ^ (8 * k) % 256 = cc in
    let t : be k n ≡ be k m = cc in
    let r = be-mod_inj k n m t in
    let w : 8 * suc k ≡ 8 + 8 * k = omega arith in
    rw (w, mod-pow-add n 8 (8 * k), mod-pow-add m 8 (8 * k)) (cc)

-- numbers that fit in k bytes are told apart by them
pub be_inj : (k : ℕ) {n m : ℕ} → n < 2 ^ (8 * k) → m < 2 ^ (8 * k) → be k n ≡ be k m → n ≡ m
be_inj k {n} {m} hn hm e = sym (mod-eq_of_lt hn) ∙ be-mod_inj k n m e ∙ mod-eq_of_lt hm

-- a number in front that fits
pub cancel_be : (k : ℕ) {n m : ℕ} {x y : List ℕ} → n < 2 ^ (8 * k) → m < 2 ^ (8 * k) → be k n ‖ x ≡ be k m ‖ y → (n ≡ m) × (x ≡ y)
cancel_be k {n} {m} hn hm e =
    let r = cancel (be k n) (be k m) (length-be k n ∙ sym (length-be k m)) e in
    (be_inj k hn hm r.0, r.1)

-- a number in front, whatever it is
pub skip_be : (k n m : ℕ) {x y : List ℕ} → be k n ‖ x ≡ be k m ‖ y → x ≡ y
skip_be k n m e = (cancel (be k n) (be k m) (length-be k n ∙ sym (length-be k m)) e).1

-- the upper j bytes and the lower k
pub be-append : (j k n : ℕ) → be (j + k) n ≡ be j (n / 2 ^ (8 * k)) ++ be k n
be-append zero k n = ap (λ (i : ℕ). be i n) (zero-add k)
be-append (suc j) k n =
    let w : 8 * (j + k) ≡ 8 * k + 8 * j = omega arith in
    let h : n / 2 ^ (8 * (j + k)) ≡ n / 2 ^ (8 * k) / 2 ^ (8 * j) = ap (λ (i : ℕ). n / 2 ^ i) w ∙ sym (shr-shr n (8 * k) (8 * j)) in
    let t = be-append j k n in
    ap (λ (i : ℕ). be i n) (suc-add j k) ∙ (λ i. h i % 256 ∷ t i)

-- behind the upper j bytes, the lower k
pub lower : (j k n : ℕ) → drop j (be (j + k) n) ≡ be k n
lower j k n =
    let upper = be j (n / 2 ^ (8 * k)) in
    ap (drop j) (be-append j k n) ∙ ap (λ (i : ℕ). drop i (upper ++ be k n)) (sym (length-be j _)) ∙ drop-append_seam upper (be k n)

-- the lower k bytes do not see what lies above them
pub be-mod : (j k n : ℕ) → be k (n % 2 ^ (8 * (j + k))) ≡ be k n
be-mod j zero n = refl
be-mod j (suc k) n =
    let w : 8 * (j + suc k) ≡ (8 * j + 8) + 8 * k = omega arith in
    let v : 8 * (j + suc k) ≡ 8 * (suc j + k) = omega arith in
    let h : n % 2 ^ (8 * (j + suc k)) / 2 ^ (8 * k) % 256 ≡ n / 2 ^ (8 * k) % 256
    = ap (λ (i : ℕ). n % 2 ^ i / 2 ^ (8 * k) % 256) w ∙ ap (λ (i : ℕ). i % 256) (field n (8 * j + 8) (8 * k)) ∙ mod-mod-pow (n / 2 ^ (8 * k)) (8 * j) 8 in
    let t = ap (λ (i : ℕ). be k (n % 2 ^ i)) v ∙ be-mod (suc j) k n in
    λ i. h i ∷ t i

-- one byte that fits is itself
pub be_one : {n : ℕ} → n < 256 → be 1 n ≡ n ∷ []
be_one {n} h = let e : n / 1 % 256 ≡ n = omega arith in ap (λ (k : ℕ). k ∷ []) e

-- ---- the number that bytes say

value-mod : (k n : ℕ) → value (be k n) ≡ n % 2 ^ (8 * k)
value-mod zero n = omega arith
value-mod (suc k) n =
    let w : 8 * suc k ≡ 8 + 8 * k = omega arith in
    (λ i. n / 2 ^ (8 * k) % 256 * 2 ^ (8 * length-be k n i) + value-mod k n i) ∙ sym (mod-pow-add n 8 (8 * k)) ∙ ap (λ (m : ℕ). n % 2 ^ m) (sym w)

pub value-be : (k n : ℕ) → n < 2 ^ (8 * k) → value (be k n) ≡ n
value-be k n h = value-mod k n ∙ mod-eq_of_lt h

-- ---- products

-- the product of two numbers of k bits has at most k + k
pub below : (k : ℕ) {a b : ℕ} → a < 2 ^ k → b < 2 ^ k → a * b < 2 ^ (k + k)
below k {a} {b} ha hb =
    subst⁻¹ (λ (n : ℕ). a * b < n) (pow-add 2 k k)
    (lt_of_le_of_lt (mul-le-mul_left a (le_of_lt hb)) (mul-lt-mul_of_pos_right ha (pow_pos k)))
