-- The runs that are still to come have the rest.
use mathlib.Core.Path.{◌≡◌}
use Prim.Native.Nat.{◌+◌, ◌*◌, ◌≤◌}
use lib.ListN.{length, drop}
use Rattle.plan_runs.specs.Lists.{listed}
use Rattle.plan_runs.proofs.lists.count.Given as goal

abbrev pub invariant-loop-associated : goal.invariant-loop-associated
invariant-loop-associated l = record { value : l.n + length (listed (drop l.associated-index l.list)) ≡ length (listed l.list); upper_bound : l.n ≤ 127 * l.associated-index }
