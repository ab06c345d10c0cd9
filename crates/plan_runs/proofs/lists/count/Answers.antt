-- Each turn counts one run more.
use mathlib.Core.Path.{ap}
use native.Mathlib.Omega.{arith}
use lib.ListN.{length}
use Rattle.plan_runs.proofs.Listed.{listed_end, length-listed-drop}
use Rattle.plan_runs.proofs.lists.count.Goals as goal

pub loop-associated-preserved : goal.loop-associated-preserved
loop-associated-preserved c =
    let rest = length-listed-drop c.args.list.now c.loop-associated-test.true c.associated-item.is in
    record { value = omega arith; upper_bound = omega arith }

pub returns-clause-value : goal.returns-clause-value
returns-clause-value c = omega (arith, ap length (listed_end c.args.list.now c.loop-associated-test.false))
