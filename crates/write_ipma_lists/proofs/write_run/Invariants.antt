-- The positions that are still to come are owed.
use Prim.Native.Nat.{◌-◌}
use Rattle.octets.specs.Stores.{Room}
use Rattle.octets.proofs.Stores.{Owes}
use Rattle.write_ipma_lists.proofs.Marks.{between}
use Rattle.write_ipma_lists.proofs.write_run.Given as goal

abbrev pub invariant-loop-position : goal.invariant-loop-position
invariant-loop-position l =
    let end = l.position-end in
    let first = l.initial.position in
    let next = l.position in
    Owes l.initial.out (end - first) (between l.is_essential first end) l.out (end - next) (between l.is_essential next end) × Room l.out (end - next)
