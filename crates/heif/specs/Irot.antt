-- 23008-12, 6.5: image rotation property.
use Rattle.std.specs.Prelude.{cond, List, ℕ, zero, suc, ◌*◌, Option, None, Some, is_some}
use Rattle.octets.specs.Numbers.{be}
use Rattle.panel.specs.Types.{irot_steps}
use Rattle.panel.specs.declared.metadata.Orientation.{Orientation}

-- quarter turns anticlockwise; no turn is no property
abbrev pub irot_payload : ℕ → Option (List ℕ)
irot_payload zero = None
irot_payload (suc k) = Some (be 1 (suc k))

-- ---- how many there are, and how many bytes they have, as whole boxes

abbrev pub irot_count : Orientation → ℕ
irot_count o = cond (is_some (irot_payload (irot_steps o))) 1 0

abbrev pub irot_size : ℕ → ℕ
irot_size steps = 9 * cond (is_some (irot_payload steps)) 1 0
