-- 23008-12, 6.5: auxiliary type property.
use Rattle.std.specs.Prelude.{ℕ, ◌+◌}
use Prim.Native.String.{String}
use Rattle.octets.specs.Numbers.{◌‖◌, be, text}
use Rattle.octets.specs.Boxes.{Box, full}

-- the type of an auxiliary picture, and a zero byte
abbrev pub auxC : String → Box
auxC urn = full "auxC" 0 0 (text urn ‖ be 1 0)

-- ---- how many bytes it has, as a whole box, with a urn of n bytes

abbrev pub auxC_size : ℕ → ℕ
auxC_size n = 13 + n
