-- 14496-12, 8.4.3: handler box.
use Rattle.std.specs.Prelude.{ℕ}
use Rattle.octets.specs.Numbers.{◌‖◌, be, text}
use Rattle.octets.specs.Boxes.{Box, full}

-- predefined 0, the handler of pictures, three reserved numbers, an empty name
abbrev pub hdlr : Box
hdlr = full "hdlr" 0 0 (be 4 0 ‖ text "pict" ‖ be 4 0 ‖ be 4 0 ‖ be 4 0 ‖ be 1 0)

-- ---- how many bytes it has, as a whole box

abbrev pub hdlr_size : ℕ
hdlr_size = 33
