-- 23008-12, 6.5: clean aperture property, with the payload of 14496-12, 12.1.4: the part of a tile that is visible.
use Rattle.std.specs.Prelude.{cond, List, ℕ, ◌*◌, ℤ, pos, ◌-ℤ◌, Option, None, Some, is_some}
use Rattle.std.specs.Int.{cast_unsigned}
use mir.Syntax.{w32}
use Rattle.octets.specs.Numbers.{◌‖◌, be}
use Rattle.panel.specs.declared.GridDims.{GridDims}
use Rattle.panel.specs.declared.VisibleSize.{VisibleSize}

-- a signed number in four bytes, in two's complement
abbrev signed : ℤ → List ℕ
signed z = be 4 (cast_unsigned w32 z)

-- visible minus decoded: zero or negative
abbrev pub difference : ℕ → ℕ → ℤ
difference visible decoded = pos visible -ℤ pos decoded

-- how far the centre of what is visible lies from the centre of what is decoded: half of the difference
abbrev pub offset : ℕ → ℕ → List ℕ
offset visible decoded = signed (difference visible decoded) ‖ be 4 2

-- its width and height, then its centre's offset to the right and down; each a numerator and a denominator
abbrev pub clap_body : GridDims → VisibleSize → List ℕ
clap_body d v = be 4 v.w ‖ be 4 1 ‖ be 4 v.h ‖ be 4 1 ‖ offset v.w d.tile_w ‖ offset v.h d.tile_h

abbrev pub clap_payload : GridDims → Option VisibleSize → Option (List ℕ)
clap_payload d None = None
clap_payload d (Some v) = Some (clap_body d v)

-- ---- how many there are, and how many bytes they have, as whole boxes

abbrev pub clap_count : Option VisibleSize → ℕ
clap_count visible = cond (is_some visible) 1 0

abbrev pub clap_size : Option VisibleSize → ℕ
clap_size visible = 40 * clap_count visible
