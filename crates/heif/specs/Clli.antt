-- The content light level property.
use Rattle.std.specs.Prelude.{cond, List, ℕ, ◌*◌, Option, None, Some, is_some}
use Rattle.octets.specs.Numbers.{◌‖◌, be}
use Rattle.panel.specs.declared.metadata.ContentLightLevel.{ContentLightLevel}

-- the highest light level, and the highest average of a picture
abbrev pub clli_payload : Option ContentLightLevel → Option (List ℕ)
clli_payload None = None
clli_payload (Some l) = Some (be 2 l.max_content_light_level ‖ be 2 l.max_pic_average_light_level)

-- ---- how many there are, and how many bytes they have, as whole boxes

abbrev pub clli_count : Option ContentLightLevel → ℕ
clli_count light = cond (is_some light) 1 0

abbrev pub clli_size : Option ContentLightLevel → ℕ
clli_size light = 12 * clli_count light
