-- What a reader gets back from the bytes that were made for it: the value, and whatever lies behind them.
use mathlib.Core.Path.{◌≡◌, refl, sym, ap, ◌∙◌}
use mathlib.Core.Bool.{cond}
use Rattle.std.specs.Prelude.{Option, None, Some, is_some}
use mathlib.Core.List.{List, [], ◌∷◌, ◌++◌, flat_map, append_assoc, append-nil}
use Prim.Native.Nat.{ℕ, ◌*◌, ◌^◌, ◌≤◌, ◌<◌}
use native.Mathlib.Omega.{arith}
use lib.ListN.{length, take, drop, length-append}
use lib.Seq.{take_at, drop_at}
use borrow.Author.Tests.{le-ltb}
use Rattle.octets.specs.Numbers.{◌‖◌, be, total, value}
use Rattle.octets.proofs.Numbers.{length-be, value-be}
use Rattle.octets.proofs.Lists.{length-flat_map}
use Rattle.panel.specs.Widths.{Of}
use Rattle.sheet_fields.specs.Read.{Reader, got, stop, give, onward, ◌then◌}
use Rattle.sheet_fields.specs.Fields.{bytes, number, string, words, lengths, known, coded, optional}
use Rattle.sheet_frame.specs.Frame.{end}
use Rattle.sheet_bytes.specs.Bytes.{string_bytes, optional_bytes, lengths_bytes}

-- f reads a off x, which is not longer than a length of 32 bits can say
pub record Says {A : Type 0} (f : Reader A) (x : List ℕ) (a : A) : Type 0 where
  pub says : length x < 2 ^ 32 → (rest : List ℕ) → f (x ++ rest) ≡ got a rest

-- ---- one after the other

module _ {A B : Type 0} {f : Reader A} {x : List ℕ} {a : A} where
  pub and_then : (g : A → Reader B) {y : List ℕ} {b : B} → Says f x a → Says (g a) y b → Says (f then g) (x ‖ y) b
  and_then g {y} {b} h k = record {
    says = λ l rest.
        let s = length-append x y in
        ap (λ z. onward (f z) g) (append_assoc x y rest) ∙ ap (λ r. onward r g) (h.says (omega arith) (y ++ rest)) ∙ k.says (omega arith) rest;
  }

  -- where what follows takes no bytes
  pub closes : (g : A → Reader B) {b : B} → Says f x a → g a ≡ give b → Says (f then g) x b
  closes g h e = record { says = λ l rest. ap (λ r. onward r g) (h.says l rest) ∙ ap (λ r. r rest) e }

-- the same value by another name
pub as_well : {A : Type 0} {f : Reader A} {x : List ℕ} {a b : A} → a ≡ b → Says f x a → Says f x b
as_well e h = rw e at h

off_none : {A : Type 0} {a : A} → Says (give a) [] a
off_none = record { says = λ l rest. refl }

-- ---- bytes and numbers

pub off_bytes : (n : ℕ) (x : List ℕ) → length x ≡ n → Says (bytes n) x x
unfolding bytes
off_bytes n x e = record {
  says = λ l rest.
      let h : n ≤ length (x ++ rest) = omega (arith, length-append x rest) in
      ap (λ b. cond b (stop 11) (got (take n (x ++ rest)) (drop n (x ++ rest)))) (le-ltb _ _ h)
      ∙ (λ i. got (take_at x rest n e i) (drop_at x rest n e i));
}

off_be : (k n : ℕ) → Says (number k) (be k n) (value (be k n))
unfolding number
off_be k n = closes _ (off_bytes k (be k n) (length-be k n)) refl

pub off_number : (k n : ℕ) → n < 2 ^ (8 * k) → Says (number k) (be k n) n
off_number k n h = as_well (value-be k n h) (off_be k n)

pub off_string : (x : List ℕ) → Says string (string_bytes x) x
unfolding string
off_string x = record { says = λ l rest. (and_then bytes (off_number 4 (length x) (omega (arith, length-append (be 4 (length x)) x, length-be 4 (length x)))) (off_bytes (length x) x refl)).says l rest }

words_back : (l : List ℕ) → total l < 2 ^ 32 → words (length l) (lengths_bytes l) ≡ l
unfolding flat_map
words_back [] h = refl
words_back (a ∷ l) h = λ i. value-be 4 a (omega arith) i ∷ words_back l (omega arith) i

pub off_lengths : (l : List ℕ) (n : ℕ) → length l ≡ n → total l < 2 ^ 32 → Says (lengths n) (lengths_bytes l) l
unfolding lengths
off_lengths l n e h =
    let w : length (lengths_bytes l) ≡ 4 * n = omega (arith, length-flat_map (be 4) 4 (length-be 4) l) in
    as_well (ap (λ k. words k (lengths_bytes l)) (sym e) ∙ words_back l h) (closes _ (off_bytes (4 * n) (lengths_bytes l) w) refl)

-- ---- codes, and fields that may be left out

pub off_code : {A : Type 0} (k c : ℕ) (named : ℕ → Option A) {a : A} → named (value (be k c)) ≡ Some a → Says (coded k named) (be k c) a
off_code k c named e = closes _ (off_be k c) (ap known e)

pub off_optional : {A : Type 0} (f : Reader A) (print : A → List ℕ) (o : Option A) → Of (λ a. Says f (print a) a) o → Says (optional (is_some o) f) (optional_bytes print o) o
unfolding optional
off_optional f print None h = off_none
off_optional f print (Some a) h = closes _ h refl

-- ---- to the end

pub record Ends {A : Type 0} (f : Reader A) (x : List ℕ) (a : A) : Type 0 where
  pub ends : length x < 2 ^ 32 → f x ≡ got a []

module _ {A B : Type 0} {f : Reader A} {x : List ℕ} {a : A} where
  pub and-ends : (g : A → Reader B) {y : List ℕ} {b : B} → Says f x a → Ends (g a) y b → Ends (f then g) (x ‖ y) b
  and-ends g {y} h k = record {
    ends = λ l.
        let s = length-append x y in
        ap (λ r. onward r g) (h.says (omega arith) y) ∙ k.ends (omega arith);
  }

  pub last-ends : (make : A → B) → Says f x a → Ends (f then λ v. end (make v)) x (make a)
  unfolding end
  last-ends make h = record { ends = λ l. ap (λ z. onward (f z) (λ v. end (make v))) (sym (append-nil x)) ∙ ap (λ r. onward r (λ v. end (make v))) (h.says l []) }
