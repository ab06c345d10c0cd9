-- What a code stands for: a depth, an orientation, a form of the file, yes or no, and a colour by its four codes.
use Rattle.std.specs.Prelude.{Bool, ℕ, Option, Some, option_and_then}
use Rattle.panel.specs.Codes.{named, primaries_named, transfer_named, matrix_named, depth_code, every_depth, orientation_code, every_orientation, form_code, every_form, bool_code, every_bool}
use Rattle.panel.specs.declared.FileForm.{FileForm}
use Rattle.panel.specs.declared.color.Cicp.{Cicp}
use Rattle.panel.specs.declared.fmt.BitDepth.{BitDepth}
use Rattle.panel.specs.declared.metadata.Orientation.{Orientation}

-- ---- depth

abbrev pub depth_named : ℕ → Option BitDepth
depth_named n = named depth_code every_depth n

-- ---- orientation

abbrev pub orientation_named : ℕ → Option Orientation
orientation_named n = named orientation_code every_orientation n

-- ---- form of the file

abbrev pub form_named : ℕ → Option FileForm
form_named n = named form_code every_form n

-- ---- yes or no

abbrev pub yes_no : ℕ → Option Bool
yes_no n = named bool_code every_bool n

-- ---- colour: none where one of its codes stands for nothing

infixr 20 ◌and_then◌
-- what the second makes of a value that is there
abbrev pub ◌and_then◌ : {A B : Type 0} → Option A → (A → Option B) → Option B
o and_then f = option_and_then f o

unfoldable pub cicp_named : ℕ → ℕ → ℕ → ℕ → Option Cicp
cicp_named primaries transfer matrix range =
    primaries_named primaries and_then λ p.
    transfer_named transfer and_then λ t.
    matrix_named matrix and_then λ m.
    yes_no range and_then λ full.
    Some (record { primaries = p; transfer = t; matrix = m; full_range = full })
