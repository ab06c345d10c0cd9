-- 23008-12, annex B: decoder configuration property; 14496-15: the record that it holds.
use Rattle.std.specs.Prelude.{Bool, List, ℕ, ◌+◌, ◌%◌, eqb, length, get_or}
use Rattle.octets.specs.Boxes.{Box, box}

-- the record as it is given
abbrev pub hvcC : List ℕ → Box
hvcC hvcc = box "hvcC" hvcc

-- the profile of a record stands in the low five bits of its second byte; 4 is the range extensions' (rext)
abbrev pub rext : List ℕ → Bool
rext hvcc = eqb (get_or hvcc 1 0 % 32) 4

-- ---- how many bytes it has, as a whole box

abbrev pub hvcC_size : List ℕ → ℕ
hvcC_size hvcc = 8 + length hvcc
