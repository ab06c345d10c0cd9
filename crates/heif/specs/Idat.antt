-- 14496-12, 8.11.11: item data box; 23008-12, 6.6.2.3: the grids' descriptors, which lie in it.
use Rattle.std.specs.Prelude.{Bool, ◌||◌, cond, List, ℕ, ◌*◌, ◌-◌, ltb}
use Rattle.octets.specs.Numbers.{◌‖◌, be}
use Rattle.octets.specs.Boxes.{Box, box}
use Rattle.panel.specs.declared.GridDims.{GridDims}

-- ---- the descriptor of a grid: version 0, flags, rows − 1, columns − 1, and the size in 16 bits, or with flag 2 in 32

abbrev pub descriptor_of : Bool → GridDims → List ℕ
descriptor_of long d =
    let k = cond {A = ℕ} long 4 2 in
    be 1 0 ‖ be 1 (cond long 2 0) ‖ be 1 (d.rows - 1) ‖ be 1 (d.cols - 1) ‖ be k d.full_w ‖ be k d.full_h

-- a side is above 65,535
abbrev pub large : GridDims → Bool
large d = ltb 65535 d.full_w || ltb 65535 d.full_h

abbrev pub descriptor : GridDims → List ℕ
descriptor d = descriptor_of (large d) d

-- the descriptor of each grid
abbrev pub idat : GridDims → Box
idat d = box "idat" (descriptor d ‖ descriptor d)

-- ---- how many bytes its body has

abbrev pub descriptor_size : GridDims → ℕ
descriptor_size d = cond (large d) 12 8

abbrev pub idat_size : GridDims → ℕ
idat_size d = 2 * descriptor_size d
