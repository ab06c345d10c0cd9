-- The runs that are still to come are owed.
use lib.ListN.{length, drop}
use Rattle.octets.specs.Stores.{Room}
use Rattle.octets.proofs.Stores.{Owes}
use Rattle.plan_runs.specs.Lists.{listed}
use Rattle.write_ipma_lists.proofs.write_list.Given as goal

abbrev pub invariant-loop-associated : goal.invariant-loop-associated
invariant-loop-associated l =
    let rest = listed (drop l.associated-index l.list) in
    Owes l.initial.out (length (listed l.list)) (listed l.list) l.out (length rest) rest × Room l.out (length rest)
