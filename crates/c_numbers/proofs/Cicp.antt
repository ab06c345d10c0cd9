-- A colour by its codes.
use mathlib.Core.Path.{◌≡◌, refl}
use mathlib.Core.Bool.{Bool}
use Rattle.std.specs.Prelude.{Some}
use Rattle.panel.specs.Codes.{primaries_named, transfer_named, matrix_named}
use Rattle.panel.specs.declared.color.Primaries.{Primaries}
use Rattle.panel.specs.declared.color.TransferFunction.{TransferFunction}
use Rattle.panel.specs.declared.color.MatrixCoefficients.{MatrixCoefficients}
use Rattle.panel_codes.specs.Codes.{yes_no, cicp_named}
use Rattle.c_types.specs.declared.CicpCodes.{CicpCodes}
use Rattle.c_numbers.specs.Codes.{cicp_from}

-- where each code stands for something, the four stand for the colour of these
pub cicp_there : (c : CicpCodes) {p : Primaries} {t : TransferFunction} {m : MatrixCoefficients} {full : Bool}
    → primaries_named c.primaries ≡ Some p
    → transfer_named c.transfer ≡ Some t
    → matrix_named c.matrix ≡ Some m
    → yes_no c.full_range ≡ Some full
    → cicp_from c ≡ Some (record { primaries = p; transfer = t; matrix = m; full_range = full })
unfolding cicp_named
cicp_there c p t m full = rw (p, t, m, full) refl
