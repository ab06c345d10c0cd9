-- 23008-12, 6.5: image mirroring property.
use Rattle.std.specs.Prelude.{Bool, cond, List, ℕ, ◌*◌, Option, None, Some, is_some}
use Rattle.octets.specs.Numbers.{be}
use Rattle.panel.specs.Types.{imir_axis}
use Rattle.panel.specs.declared.metadata.Orientation.{Orientation}

-- the axis of the mirror; no mirror is no property
abbrev pub imir_payload : Option Bool → Option (List ℕ)
imir_payload None = None
imir_payload (Some axis) = Some (be 1 (cond axis 1 0))

-- ---- how many there are, and how many bytes they have, as whole boxes

abbrev pub imir_count : Orientation → ℕ
imir_count o = cond (is_some (imir_payload (imir_axis o))) 1 0

abbrev pub imir_size : Option Bool → ℕ
imir_size axis = 9 * cond (is_some (imir_payload axis)) 1 0
