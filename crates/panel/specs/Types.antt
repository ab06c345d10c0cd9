-- The code's enums as numbers: depths, code points, orientations; and the colour of which nothing is stated.
use Rattle.std.specs.Prelude.{Bool, true, false, ℕ, Option, None, Some}
use Rattle.panel.specs.declared.fmt.BitDepth.{BitDepth}
use Rattle.panel.specs.declared.fmt.BitDepth.TheVariants.{Eight, Ten, Twelve}
use Rattle.panel.specs.declared.color.Primaries.{Primaries}
use Rattle.panel.specs.declared.color.Primaries.TheVariants as P
use Rattle.panel.specs.declared.color.TransferFunction.{TransferFunction}
use Rattle.panel.specs.declared.color.TransferFunction.TheVariants as T
use Rattle.panel.specs.declared.color.MatrixCoefficients.{MatrixCoefficients}
use Rattle.panel.specs.declared.color.MatrixCoefficients.TheVariants as M
use Rattle.panel.specs.declared.metadata.Orientation.{Orientation}
use Rattle.panel.specs.declared.metadata.Orientation.TheVariants.{Normal, FlipH, Rotate180, FlipV, Transpose, Rotate90, Transverse, Rotate270}
use Rattle.panel.specs.declared.color.Cicp.{Cicp}

abbrev pub bits : BitDepth → ℕ
bits Eight = 8
bits Ten = 10
bits Twelve = 12

-- ISO/IEC 23091-2: colour primaries
abbrev pub primaries_code : Primaries → ℕ
primaries_code P.Reserved = 0
primaries_code P.Bt709 = 1
primaries_code P.Unspecified = 2
primaries_code P.Bt470M = 4
primaries_code P.Bt470Bg = 5
primaries_code P.Bt601 = 6
primaries_code P.Smpte240 = 7
primaries_code P.GenericFilm = 8
primaries_code P.Bt2020 = 9
primaries_code P.Xyz = 10
primaries_code P.Smpte431 = 11
primaries_code P.Smpte432 = 12
primaries_code P.Ebu3213 = 22

-- ISO/IEC 23091-2: transfer characteristics
abbrev pub transfer_code : TransferFunction → ℕ
transfer_code T.Reserved = 0
transfer_code T.Bt709 = 1
transfer_code T.Unspecified = 2
transfer_code T.Bt470M = 4
transfer_code T.Bt470Bg = 5
transfer_code T.Bt601 = 6
transfer_code T.Smpte240 = 7
transfer_code T.Linear = 8
transfer_code T.Log100 = 9
transfer_code T.Log100sqrt10 = 10
transfer_code T.Iec61966 = 11
transfer_code T.Bt1361 = 12
transfer_code T.Srgb = 13
transfer_code T.Bt202010bit = 14
transfer_code T.Bt202012bit = 15
transfer_code T.Smpte2084 = 16
transfer_code T.Smpte428 = 17
transfer_code T.Hlg = 18

-- ISO/IEC 23091-2: matrix coefficients
abbrev pub matrix_code : MatrixCoefficients → ℕ
matrix_code M.Identity = 0
matrix_code M.Bt709 = 1
matrix_code M.Unspecified = 2
matrix_code M.Reserved = 3
matrix_code M.Fcc = 4
matrix_code M.Bt470Bg = 5
matrix_code M.Smpte170m = 6
matrix_code M.Smpte240m = 7
matrix_code M.YCgCo = 8
matrix_code M.Bt2020Ncl = 9
matrix_code M.Bt2020Cl = 10
matrix_code M.Smpte2085 = 11
matrix_code M.ChromaticityDerivedNCL = 12
matrix_code M.ChromaticityDerivedCL = 13
matrix_code M.ICtCp = 14
matrix_code M.IPtC2 = 15
matrix_code M.YCgCoRe = 16
matrix_code M.YCgCoRo = 17

-- quarter turns anticlockwise
abbrev pub irot_steps : Orientation → ℕ
irot_steps Normal = 0
irot_steps FlipH = 0
irot_steps Rotate180 = 2
irot_steps FlipV = 0
irot_steps Transpose = 3
irot_steps Rotate90 = 3
irot_steps Transverse = 1
irot_steps Rotate270 = 1

-- the axis of the mirror, where there is one
abbrev pub imir_axis : Orientation → Option Bool
imir_axis Normal = None
imir_axis FlipH = Some false
imir_axis Rotate180 = None
imir_axis FlipV = Some true
imir_axis Transpose = Some false
imir_axis Rotate90 = None
imir_axis Transverse = Some false
imir_axis Rotate270 = None

-- colour of which nothing is stated but the full range
abbrev pub unspecified : Cicp
unspecified = record { primaries = P.Unspecified; transfer = T.Unspecified; matrix = M.Unspecified; full_range = true }
