-- Each code, read back from its bytes.
use mathlib.Core.Path.{◌≡◌, refl}
use mathlib.Core.Bool.{Bool}
use native.Mathlib.Omega.{arith}
use Rattle.std.specs.Prelude.{Some, unwrap_or}
use Rattle.octets.specs.Numbers.{be, value}
use Rattle.panel.specs.Types.{primaries_code, transfer_code, matrix_code}
use Rattle.panel.specs.Codes.{primaries_named, transfer_named, matrix_named, depth_code, every_depth, orientation_code, every_orientation, bool_code, every_bool}
use Rattle.panel.specs.declared.color.Primaries.{Primaries}
use Rattle.panel.specs.declared.color.Primaries.TheVariants as P
use Rattle.panel.specs.declared.color.TransferFunction.{TransferFunction}
use Rattle.panel.specs.declared.color.TransferFunction.TheVariants as T
use Rattle.panel.specs.declared.color.MatrixCoefficients.{MatrixCoefficients}
use Rattle.panel.specs.declared.color.MatrixCoefficients.TheVariants as M
use Rattle.panel.specs.declared.color.Cicp.{Cicp}
use Rattle.panel.specs.declared.fmt.BitDepth.{BitDepth}
use Rattle.panel.specs.declared.metadata.Orientation.{Orientation}
use Rattle.panel.specs.declared.metadata.Orientation.TheVariants.{Normal}
use Rattle.panel_codes.specs.Codes.{depth_named, orientation_named, yes_no}
use Rattle.sheet_fields.specs.Codes.{depth, orientation, cicp}
use Rattle.sheet_bytes.specs.Bytes.{cicp_bytes, orientation_bytes, turned}
use Rattle.sheet_bytes.proofs.Says.{Says, and_then, closes, off_code}

depth_back : (d : BitDepth) → depth_named (value (be 1 (depth_code d))) ≡ Some d
unfolding every_depth
depth_back d = grind arith

pub off_depth : (d : BitDepth) → Says depth (be 1 (depth_code d)) d
off_depth d = off_code 1 (depth_code d) depth_named (depth_back d)

orientation_back : (o : Orientation) → orientation_named (value (be 1 (orientation_code o))) ≡ Some o
unfolding every_orientation
orientation_back o = grind arith

pub off_orientation : (o : Orientation) → Says orientation (orientation_bytes o) o
off_orientation o = off_code 1 (orientation_code o) orientation_named (orientation_back o)

-- an orientation that is left out is Normal
pub turned_back : (o : Orientation) → unwrap_or (turned o) Normal ≡ o
turned_back o = grind arith

range_back : (b : Bool) → yes_no (value (be 1 (bool_code b))) ≡ Some b
unfolding every_bool
range_back b = grind arith

primaries_back : (a : Primaries) → primaries_named (value (be 2 (primaries_code a))) ≡ Some a
primaries_back P.Reserved = refl
primaries_back P.Bt709 = refl
primaries_back P.Unspecified = refl
primaries_back P.Bt470M = refl
primaries_back P.Bt470Bg = refl
primaries_back P.Bt601 = refl
primaries_back P.Smpte240 = refl
primaries_back P.GenericFilm = refl
primaries_back P.Bt2020 = refl
primaries_back P.Xyz = refl
primaries_back P.Smpte431 = refl
primaries_back P.Smpte432 = refl
primaries_back P.Ebu3213 = refl

transfer_back : (a : TransferFunction) → transfer_named (value (be 2 (transfer_code a))) ≡ Some a
transfer_back T.Reserved = refl
transfer_back T.Bt709 = refl
transfer_back T.Unspecified = refl
transfer_back T.Bt470M = refl
transfer_back T.Bt470Bg = refl
transfer_back T.Bt601 = refl
transfer_back T.Smpte240 = refl
transfer_back T.Linear = refl
transfer_back T.Log100 = refl
transfer_back T.Log100sqrt10 = refl
transfer_back T.Iec61966 = refl
transfer_back T.Bt1361 = refl
transfer_back T.Srgb = refl
transfer_back T.Bt202010bit = refl
transfer_back T.Bt202012bit = refl
transfer_back T.Smpte2084 = refl
transfer_back T.Smpte428 = refl
transfer_back T.Hlg = refl

matrix_back : (a : MatrixCoefficients) → matrix_named (value (be 2 (matrix_code a))) ≡ Some a
matrix_back M.Identity = refl
matrix_back M.Bt709 = refl
matrix_back M.Unspecified = refl
matrix_back M.Reserved = refl
matrix_back M.Fcc = refl
matrix_back M.Bt470Bg = refl
matrix_back M.Smpte170m = refl
matrix_back M.Smpte240m = refl
matrix_back M.YCgCo = refl
matrix_back M.Bt2020Ncl = refl
matrix_back M.Bt2020Cl = refl
matrix_back M.Smpte2085 = refl
matrix_back M.ChromaticityDerivedNCL = refl
matrix_back M.ChromaticityDerivedCL = refl
matrix_back M.ICtCp = refl
matrix_back M.IPtC2 = refl
matrix_back M.YCgCoRe = refl
matrix_back M.YCgCoRo = refl

pub off_cicp : (c : Cicp) → Says cicp (cicp_bytes c) c
unfolding cicp
off_cicp c =
    and_then _ (off_code 2 (primaries_code c.primaries) primaries_named (primaries_back c.primaries))
    (and_then _ (off_code 2 (transfer_code c.transfer) transfer_named (transfer_back c.transfer))
    (and_then _ (off_code 2 (matrix_code c.matrix) matrix_named (matrix_back c.matrix))
    (closes _ (off_code 1 (bool_code c.full_range) yes_no (range_back c.full_range)) refl)))
