-- The fields of a sheet that are codes, and the four codes of a colour.
use Rattle.std.specs.Prelude.{Bool}
use Rattle.panel.specs.Codes.{primaries_named, transfer_named, matrix_named}
use Rattle.panel.specs.declared.color.Primaries.{Primaries}
use Rattle.panel.specs.declared.color.TransferFunction.{TransferFunction}
use Rattle.panel.specs.declared.color.MatrixCoefficients.{MatrixCoefficients}
use Rattle.panel.specs.declared.color.Cicp.{Cicp}
use Rattle.panel.specs.declared.fmt.BitDepth.{BitDepth}
use Rattle.panel.specs.declared.metadata.Orientation.{Orientation}
use Rattle.panel_codes.specs.Codes.{depth_named, orientation_named, yes_no}
use Rattle.sheet_fields.specs.Read.{Reader, give, ◌then◌}
use Rattle.sheet_fields.specs.Fields.{coded}

-- a depth, an orientation and a 0 or 1 take one byte each
abbrev pub depth : Reader BitDepth
depth = coded 1 depth_named

abbrev pub orientation : Reader Orientation
orientation = coded 1 orientation_named

abbrev pub full_range : Reader Bool
full_range = coded 1 yes_no

abbrev pub primaries : Reader Primaries
primaries = coded 2 primaries_named

abbrev pub transfer : Reader TransferFunction
transfer = coded 2 transfer_named

abbrev pub matrix : Reader MatrixCoefficients
matrix = coded 2 matrix_named

-- three codes of 16 bits, then 0 or 1, each judged where it stands
unfoldable pub cicp : Reader Cicp
cicp =
    primaries then λ p.
    transfer then λ t.
    matrix then λ m.
    full_range then λ f.
    give (record { primaries = p; transfer = t; matrix = m; full_range = f })
