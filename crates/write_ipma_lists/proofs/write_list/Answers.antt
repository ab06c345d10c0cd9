-- Each turn writes one run more.
use mathlib.Core.Path.{ap}
use native.Mathlib.Omega.{arith}
use lib.ListN.{length}
use Rattle.octets.proofs.Stores.{turn, paid}
use Rattle.plan_runs.proofs.Listed.{listed-drop, listed_end, length-listed-drop}
use Rattle.write_ipma_lists.proofs.write_list.Goals as goal

pub write_run-requires : goal.write_run-requires
write_run-requires c = omega (arith, length-listed-drop c.args.list.now c.loop-associated-test.true c.associated-item.is)

pub loop-associated-preserved : goal.loop-associated-preserved
loop-associated-preserved c =
    let l = c.args.list.now in
    let size = length-listed-drop l c.loop-associated-test.true c.associated-item.is in
    (turn c.loop-associated.invariant.0 c.write_run.ensures (listed-drop l c.loop-associated-test.true c.associated-item.is) size, omega (arith, c.write_run.ensures.end, c.write_run.ensures.kept))

pub returns : goal.returns
returns c =
    let none = listed_end c.args.list.now c.loop-associated-test.false in
    paid c.loop-associated.invariant.0 none (ap length none)
