-- The map of a sheet: which of the fields that may be left out are there.
use Rattle.std.specs.Prelude.{Bool, ◌||◌, ◌&&◌, not, cond, ℕ, ◌/◌, ◌%◌, ◌^◌, eqb, ltb}
use Rattle.sheet_fields.specs.Read.{Reader, give, refuse, ◌then◌}
use Rattle.sheet_fields.specs.Fields.{number}
use Rattle.sheet_frame.specs.declared.map.Map.{Map}

-- whether bit i stands, bit 0 being the lowest
abbrev pub bit : ℕ → ℕ → Bool
bit i bits = eqb (bits / 2 ^ i % 2) 1

unfoldable pub map_of : ℕ → Map
map_of bits =
    record {
      cicp = bit 0 bits;
      icc = bit 1 bits;
      orientation = bit 2 bits;
      light_level = bit 3 bits;
      exif = bit 4 bits;
      gain_map = bit 5 bits;
      tmap = bit 6 bits;
      alternate_cicp = bit 7 bits;
      alternate_icc = bit 8 bits;
    }

-- one field stands without the other
abbrev pub without : Bool → Bool → Bool
without a b = a && not b

-- a bit 9 to 15 stands, or 6 without 5, or 7 or 8 without 6
abbrev pub bad_map : ℕ → Map → Bool
bad_map bits m = ltb 511 bits || (without m.tmap m.gain_map || without (m.alternate_cicp || m.alternate_icc) m.tmap)

-- 12 where the map is bad
unfoldable pub judged : ℕ → Reader Map
judged bits = cond (bad_map bits (map_of bits)) (refuse 12) (give (map_of bits))

-- the map has 16 bits
unfoldable pub sheet_map : Reader Map
sheet_map = number 2 then judged
