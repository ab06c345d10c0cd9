-- 14496-12, 12.1.5: colour information, by code points (nclx) or by an ICC profile (prof).
use Rattle.std.specs.Prelude.{cond, List, [], ◌∷◌, ℕ, ◌+◌, Option, None, Some, is_some}
use Rattle.octets.specs.Numbers.{◌‖◌, be, text}
use Rattle.octets.specs.Boxes.{Box, box, optional}
use Rattle.panel.specs.Types.{primaries_code, transfer_code, matrix_code, unspecified}
use Rattle.panel.specs.Panel.{Colour}
use Rattle.panel.specs.Parts.{long}
use Rattle.panel.specs.declared.color.Cicp.{Cicp}

abbrev pub nclx_payload : Cicp → List ℕ
nclx_payload c =
    text "nclx" ‖ be 2 (primaries_code c.primaries) ‖ be 2 (transfer_code c.transfer) ‖ be 2 (matrix_code c.matrix) ‖ be 1 (cond c.full_range 0x80 0x00)

-- unstated colour is written as unspecified full-range
abbrev pub first_colr : Option Cicp → Option (List ℕ) → List ℕ
first_colr (Some c) icc = nclx_payload c
first_colr None (Some i) = text "prof" ‖ i
first_colr None None = nclx_payload unspecified

abbrev pub profile : Option (List ℕ) → Option (List ℕ)
profile None = None
profile (Some i) = Some (text "prof" ‖ i)

-- a profile beside code points
abbrev pub second_colr : Option Cicp → Option (List ℕ) → Option (List ℕ)
second_colr (Some c) icc = profile icc
second_colr None icc = None

-- an alternate colour writes what it states
abbrev pub alternate_colrs : Option Cicp → Option (List ℕ) → List Box
alternate_colrs (Some c) icc = box "colr" (nclx_payload c) ∷ optional "colr" (profile icc)
alternate_colrs None icc = optional "colr" (profile icc)

abbrev pub alternates : Option Colour → List Box
alternates None = []
alternates (Some a) = alternate_colrs a.cicp a.icc

-- ---- how many there are, and how many bytes they have, as whole boxes: 19 by code points, 12 and the profile by ICC

abbrev pub nclx_size : ℕ
nclx_size = 19

-- a profile, where it is present
abbrev pub profile_size : Option (List ℕ) → ℕ
profile_size icc = cond (is_some icc) 12 0 + long icc

abbrev pub first_colr_size : Option Cicp → Option (List ℕ) → ℕ
first_colr_size (Some c) icc = nclx_size
first_colr_size None (Some i) = profile_size (Some i)
first_colr_size None None = nclx_size

-- a profile beside code points
abbrev pub second_colr_count : Option Cicp → Option (List ℕ) → ℕ
second_colr_count (Some c) icc = cond (is_some icc) 1 0
second_colr_count None icc = 0

abbrev pub second_colr_size : Option Cicp → Option (List ℕ) → ℕ
second_colr_size (Some c) icc = profile_size icc
second_colr_size None icc = 0

abbrev pub alternates_count : Option Colour → ℕ
alternates_count None = 0
alternates_count (Some a) = cond (is_some a.cicp) 1 0 + cond (is_some a.icc) 1 0

-- what an alternate colour states
abbrev pub stated_size : Option Cicp → Option (List ℕ) → ℕ
stated_size cicp icc = cond (is_some cicp) nclx_size 0 + profile_size icc

abbrev pub alternates_size : Option Colour → ℕ
alternates_size None = 0
alternates_size (Some a) = stated_size a.cicp a.icc
