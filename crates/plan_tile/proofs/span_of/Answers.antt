-- The sum of some lengths is at most that of all.
use native.Mathlib.Omega.{arith}
use Rattle.octets.proofs.Lists.{total-take}
use Rattle.plan_tile.proofs.span_of.Goals as goal

pub overflow_cast-start : goal.overflow_cast-start
overflow_cast-start c = record { fits = omega (arith, total-take c.args.samples.lengths.now c.args.k) }
