-- Byte by byte: the front of the room is the front of the source.
use mathlib.Core.Path.{◌≡◌}
use lib.ListN.{take}
use Rattle.octets.proofs.copy.Given as goal

abbrev pub invariant-loop-i : goal.invariant-loop-i
invariant-loop-i l = take l.i l.room ≡ take l.i l.src
