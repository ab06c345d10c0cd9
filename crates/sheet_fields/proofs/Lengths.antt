-- Lengths, by the library's numbers of its chunks of four bytes.
use Rattle.std.proofs.Common.{◌≡◌, ℕ, zero, suc, ◌*◌, ◌/◌, ◌<◌, ◌≤◌, List, [], ◌∷◌, map, length, length-take-le, take, drop, length-drop, refl, ap₂, arith}
use Rattle.std.specs.Int.{w32, from_be_bytes}
use Rattle.std.specs.Simd.{first_chunks}
use borrow.Author.Tests.{lt-ltb}
use Rattle.octets.specs.Numbers.{value}
use Rattle.sheet_fields.specs.Read.{got, stop}
use Rattle.sheet_fields.specs.Fields.{bytes, words, lengths}

-- fewer bytes are left than the lengths take
pub too_few : (n : ℕ) (s : List ℕ) → length s < 4 * n → lengths n s ≡ stop 11
unfolding lengths bytes
too_few n s h = rw (lt-ltb (length s) (4 * n) h)

-- what is read is as long as it was asked to be
pub took : (n : ℕ) (s x t : List ℕ) → bytes n s ≡ got x t → length x ≡ n
unfolding bytes
took n s x t e = grind (arith, length-take-le)

-- one number: the library's is the definition's
word : (s : List ℕ) → 4 ≤ length s → from_be_bytes w32 (take 4 s) ≡ value (take 4 s)
word [] four = absurd (omega arith)
word (a ∷ []) four = absurd (omega arith)
word (a ∷ b ∷ []) four = absurd (omega arith)
word (a ∷ b ∷ c ∷ []) four = absurd (omega arith)
word (a ∷ b ∷ c ∷ d ∷ s) four = omega arith

-- all of them
chunks : (n : ℕ) (x : List ℕ) → 4 * n ≤ length x → map (from_be_bytes w32) (first_chunks 4 n x) ≡ words n x
chunks zero x four = refl
chunks (suc n) x four = ap₂ ◌∷◌ (word x (omega arith)) (chunks n (drop 4 x) (omega (arith, length-drop 4 x)))

-- what the lengths are, where their bytes were read
pub lengths_read : (n : ℕ) (s x t : List ℕ) → bytes (4 * n) s ≡ got x t → lengths n s ≡ got (map (from_be_bytes w32) (first_chunks 4 (length x / 4) x)) t
unfolding lengths
lengths_read n s x t e =
    let long = took (4 * n) s x t e in
    let count : length x / 4 ≡ n = omega (arith, long) in
    rw (e, count, chunks n x (omega (arith, long))) refl
