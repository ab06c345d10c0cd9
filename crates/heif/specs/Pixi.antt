-- 23008-12, 6.5: pixel information property.
use Rattle.std.specs.Prelude.{ℕ, ◌+◌, replicate}
use Rattle.octets.specs.Numbers.{◌‖◌, be}
use Rattle.octets.specs.Boxes.{Box, full}

-- the depth of each of k channels
abbrev pub pixi : ℕ → ℕ → Box
pixi k depth = full "pixi" 0 0 (be 1 k ‖ replicate k depth)

-- ---- how many bytes it has, as a whole box

abbrev pub pixi_size : ℕ → ℕ
pixi_size k = 13 + k
