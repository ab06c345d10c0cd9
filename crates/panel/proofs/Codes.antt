-- The enums by their codes: a value has one code, no two values share one, and a code outside the table is no value's.
-- One computed look-up of each value in the list of all gives all three.
use mathlib.Core.Path.{◌≡◌, refl, sym, ap, ◌∙◌}
use mathlib.Core.Bool.{Bool, true, false, ◌&&◌, cond}
use Rattle.std.specs.Prelude.{Some}
use mathlib.Core.List.{List, [], ◌∷◌}
use Prim.Native.Nat.{ℕ, ◌*◌, ◌^◌, ◌<◌}
use native.Mathlib.Omega.{arith}
use lib.Dec.{T, eqb, ltb}
use borrow.Author.Tests.{ltb-true}
use Rattle.octets.specs.Numbers.{be}
use Rattle.octets.proofs.Numbers.{be_inj}
use Rattle.panel.specs.Types.{bits, primaries_code, transfer_code, matrix_code}
use Rattle.panel.specs.Codes.{named, every_primaries, primaries_named, every_transfer, transfer_named, every_matrix, matrix_named}
use Rattle.panel.specs.declared.fmt.BitDepth.{BitDepth}
use Rattle.panel.specs.declared.fmt.BitDepth.TheVariants.{Eight, Ten, Twelve}
use Rattle.panel.specs.declared.color.Primaries.{Primaries}
use Rattle.panel.specs.declared.color.Primaries.TheVariants as P
use Rattle.panel.specs.declared.color.TransferFunction.{TransferFunction}
use Rattle.panel.specs.declared.color.TransferFunction.TheVariants as T
use Rattle.panel.specs.declared.color.MatrixCoefficients.{MatrixCoefficients}
use Rattle.panel.specs.declared.color.MatrixCoefficients.TheVariants as M
use Rattle.panel.proofs.Parts.{some_inj}

module _ {A : Type 0} (code : A → ℕ) where
  abbrev below : ℕ → List A → Bool
  below k [] = true
  below k (a ∷ l) = ltb (code a) k && below k l

  bounded : (k n : ℕ) (l : List A) (a : A) → T (below k l) → named code l n ≡ Some a → code a < k
  bounded k n [] a t e = absurd (let z : ◌≡◌ {A = ℕ} 0 1 = cc in omega arith)
  bounded k n (b ∷ l) a t e = go (eqb n (code b)) (ltb (code b) k) refl t (bounded k n l a) e
    where
      go : (c d : Bool) → ltb (code b) k ≡ d → T (d && below k l) → (T (below k l) → named code l n ≡ Some a → code a < k) → cond c (Some b) (named code l n) ≡ Some a → code a < k
      go true true h t r e = let w : b ≡ a = cc in rw w at (ltb-true (code b) k h)
      go false true h t r e = r t e
      go c false h t r e = absurd t

  module _ (every : List A) (found : (a : A) → named code every (code a) ≡ Some a) where
    pub code_inj : (x y : A) → code x ≡ code y → x ≡ y
    code_inj x y e = some_inj (sym (found x) ∙ ap (λ (n : ℕ). named code every n) e ∙ found y)

    bytes_inj : (k : ℕ) → T (below (2 ^ (8 * k)) every) → (x y : A) → be k (code x) ≡ be k (code y) → x ≡ y
    bytes_inj k t x y e = code_inj x y (be_inj k (bounded (2 ^ (8 * k)) (code x) every x t (found x)) (bounded (2 ^ (8 * k)) (code y) every y t (found y)) e)

-- ---- Primaries

primaries-found : (a : Primaries) → primaries_named (primaries_code a) ≡ Some a
primaries-found P.Reserved = refl
primaries-found P.Bt709 = refl
primaries-found P.Unspecified = refl
primaries-found P.Bt470M = refl
primaries-found P.Bt470Bg = refl
primaries-found P.Bt601 = refl
primaries-found P.Smpte240 = refl
primaries-found P.GenericFilm = refl
primaries-found P.Bt2020 = refl
primaries-found P.Xyz = refl
primaries-found P.Smpte431 = refl
primaries-found P.Smpte432 = refl
primaries-found P.Ebu3213 = refl

pub primaries_inj : (x y : Primaries) → be 2 (primaries_code x) ≡ be 2 (primaries_code y) → x ≡ y
primaries_inj = bytes_inj primaries_code every_primaries primaries-found 2 tt

-- ---- TransferFunction

transfer-found : (a : TransferFunction) → transfer_named (transfer_code a) ≡ Some a
transfer-found T.Reserved = refl
transfer-found T.Bt709 = refl
transfer-found T.Unspecified = refl
transfer-found T.Bt470M = refl
transfer-found T.Bt470Bg = refl
transfer-found T.Bt601 = refl
transfer-found T.Smpte240 = refl
transfer-found T.Linear = refl
transfer-found T.Log100 = refl
transfer-found T.Log100sqrt10 = refl
transfer-found T.Iec61966 = refl
transfer-found T.Bt1361 = refl
transfer-found T.Srgb = refl
transfer-found T.Bt202010bit = refl
transfer-found T.Bt202012bit = refl
transfer-found T.Smpte2084 = refl
transfer-found T.Smpte428 = refl
transfer-found T.Hlg = refl

pub transfer_inj : (x y : TransferFunction) → be 2 (transfer_code x) ≡ be 2 (transfer_code y) → x ≡ y
transfer_inj = bytes_inj transfer_code every_transfer transfer-found 2 tt

-- ---- MatrixCoefficients

matrix-found : (a : MatrixCoefficients) → matrix_named (matrix_code a) ≡ Some a
matrix-found M.Identity = refl
matrix-found M.Bt709 = refl
matrix-found M.Unspecified = refl
matrix-found M.Reserved = refl
matrix-found M.Fcc = refl
matrix-found M.Bt470Bg = refl
matrix-found M.Smpte170m = refl
matrix-found M.Smpte240m = refl
matrix-found M.YCgCo = refl
matrix-found M.Bt2020Ncl = refl
matrix-found M.Bt2020Cl = refl
matrix-found M.Smpte2085 = refl
matrix-found M.ChromaticityDerivedNCL = refl
matrix-found M.ChromaticityDerivedCL = refl
matrix-found M.ICtCp = refl
matrix-found M.IPtC2 = refl
matrix-found M.YCgCoRe = refl
matrix-found M.YCgCoRo = refl

pub matrix_inj : (x y : MatrixCoefficients) → be 2 (matrix_code x) ≡ be 2 (matrix_code y) → x ≡ y
matrix_inj = bytes_inj matrix_code every_matrix matrix-found 2 tt

-- ---- BitDepth

bits-table : List BitDepth
bits-table = Twelve ∷ Ten ∷ Eight ∷ []

bits-found : (d : BitDepth) → named bits bits-table (bits d) ≡ Some d
unfolding bits-table
bits-found Eight = refl
bits-found Ten = refl
bits-found Twelve = refl

pub bits_inj : (d e : BitDepth) → bits d ≡ bits e → d ≡ e
bits_inj = code_inj bits bits-table bits-found
