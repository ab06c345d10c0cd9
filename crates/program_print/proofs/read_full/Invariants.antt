-- At most the whole room is read, and what is left of it falls.
use Rattle.std.proofs.Common.{length, ◌-◌, ◌≤◌}
use Rattle.program_print.proofs.read_full.Given as goal

abbrev pub invariant-loop-n : goal.invariant-loop-n
invariant-loop-n g l = l.n ≤ length l.room

abbrev pub decreases-loop-n : goal.decreases-loop-n
decreases-loop-n g l = length l.room - l.n
