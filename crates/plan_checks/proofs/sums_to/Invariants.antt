-- What is missing and the lengths so far make the sum.
use mathlib.Core.Path.{◌≡◌}
use Prim.Native.Nat.{◌+◌}
use lib.ListN.{drop}
use Rattle.octets.specs.Numbers.{total}
use Rattle.plan_checks.proofs.sums_to.Given as goal

abbrev pub invariant-loop-n : goal.invariant-loop-n
invariant-loop-n l = l.missing + total l.lengths ≡ l.sum + total (drop l.n-index l.lengths)
