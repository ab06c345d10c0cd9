-- Codes: the values of each colour enum, the code of a depth, an orientation, a form, yes or no, and the one of a list that a code names.
use Rattle.std.specs.Prelude.{Bool, true, false, cond, List, [], ◌∷◌, ℕ, eqb, Option, None, Some}
use Rattle.panel.specs.Types.{primaries_code, transfer_code, matrix_code}
use Rattle.panel.specs.declared.color.Primaries.{Primaries}
use Rattle.panel.specs.declared.color.Primaries.TheVariants as P
use Rattle.panel.specs.declared.color.TransferFunction.{TransferFunction}
use Rattle.panel.specs.declared.color.TransferFunction.TheVariants as T
use Rattle.panel.specs.declared.color.MatrixCoefficients.{MatrixCoefficients}
use Rattle.panel.specs.declared.color.MatrixCoefficients.TheVariants as M
use Rattle.panel.specs.declared.FileForm.{FileForm}
use Rattle.panel.specs.declared.FileForm.TheVariants.{Ordinary, Wide}
use Rattle.panel.specs.declared.fmt.BitDepth.{BitDepth}
use Rattle.panel.specs.declared.fmt.BitDepth.TheVariants.{Eight, Ten, Twelve}
use Rattle.panel.specs.declared.metadata.Orientation.{Orientation}
use Rattle.panel.specs.declared.metadata.Orientation.TheVariants.{Normal, FlipH, Rotate180, FlipV, Transpose, Rotate90, Transverse, Rotate270}

-- the value of the list whose code is n, or none
abbrev pub named : {A : Type 0} → (A → ℕ) → List A → ℕ → Option A
named code [] n = None
named code (a ∷ l) n = cond (eqb n (code a)) (Some a) (named code l n)

abbrev pub every_primaries : List Primaries
every_primaries = P.Reserved ∷ P.Bt709 ∷ P.Unspecified ∷ P.Bt470M ∷ P.Bt470Bg ∷ P.Bt601 ∷ P.Smpte240 ∷ P.GenericFilm ∷ P.Bt2020 ∷ P.Xyz ∷ P.Smpte431 ∷ P.Smpte432 ∷ P.Ebu3213 ∷ []

abbrev pub primaries_named : ℕ → Option Primaries
primaries_named n = named primaries_code every_primaries n

abbrev pub every_transfer : List TransferFunction
every_transfer = T.Reserved ∷ T.Bt709 ∷ T.Unspecified ∷ T.Bt470M ∷ T.Bt470Bg ∷ T.Bt601 ∷ T.Smpte240 ∷ T.Linear ∷ T.Log100 ∷ T.Log100sqrt10 ∷ T.Iec61966 ∷ T.Bt1361 ∷ T.Srgb ∷ T.Bt202010bit ∷ T.Bt202012bit ∷ T.Smpte2084 ∷ T.Smpte428 ∷ T.Hlg ∷ []

abbrev pub transfer_named : ℕ → Option TransferFunction
transfer_named n = named transfer_code every_transfer n

abbrev pub every_matrix : List MatrixCoefficients
every_matrix = M.Identity ∷ M.Bt709 ∷ M.Unspecified ∷ M.Reserved ∷ M.Fcc ∷ M.Bt470Bg ∷ M.Smpte170m ∷ M.Smpte240m ∷ M.YCgCo ∷ M.Bt2020Ncl ∷ M.Bt2020Cl ∷ M.Smpte2085 ∷ M.ChromaticityDerivedNCL ∷ M.ChromaticityDerivedCL ∷ M.ICtCp ∷ M.IPtC2 ∷ M.YCgCoRe ∷ M.YCgCoRo ∷ []

abbrev pub matrix_named : ℕ → Option MatrixCoefficients
matrix_named n = named matrix_code every_matrix n

-- ---- depth

abbrev pub depth_code : BitDepth → ℕ
depth_code Eight = 0
depth_code Ten = 1
depth_code Twelve = 2

unfoldable pub every_depth : List BitDepth
every_depth = Eight ∷ Ten ∷ Twelve ∷ []

-- ---- orientation

abbrev pub orientation_code : Orientation → ℕ
orientation_code Normal = 0
orientation_code FlipH = 1
orientation_code Rotate180 = 2
orientation_code FlipV = 3
orientation_code Transpose = 4
orientation_code Rotate90 = 5
orientation_code Transverse = 6
orientation_code Rotate270 = 7

unfoldable pub every_orientation : List Orientation
every_orientation = Normal ∷ FlipH ∷ Rotate180 ∷ FlipV ∷ Transpose ∷ Rotate90 ∷ Transverse ∷ Rotate270 ∷ []

-- ---- form of the file

abbrev pub form_code : FileForm → ℕ
form_code Ordinary = 0
form_code Wide = 3

unfoldable pub every_form : List FileForm
every_form = Ordinary ∷ Wide ∷ []

-- ---- yes or no

abbrev pub bool_code : Bool → ℕ
bool_code false = 0
bool_code true = 1

unfoldable pub every_bool : List Bool
every_bool = false ∷ true ∷ []
