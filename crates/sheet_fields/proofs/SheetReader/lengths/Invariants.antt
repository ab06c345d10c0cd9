-- Word by word: the front of the list is the numbers of the words so far.
use Rattle.std.proofs.Common.{◌≡◌, map, take}
use Rattle.std.specs.Int.{w32, from_be_bytes}
use Rattle.sheet_fields.proofs.SheetReader.lengths.Given as goal

abbrev pub invariant-loop-i : goal.invariant-loop-i
invariant-loop-i l = take l.i l.list ≡ map (from_be_bytes w32) (take l.i l.words)
