-- Each turn writes one id more.
use Rattle.write_ids.proofs.Loops.{begun, turned}
use Rattle.write_ids.proofs.write_ids.Goals as goal

pub loop-id-init : goal.loop-id-init
loop-id-init c = rw c.into_iter-id-iterator.ensures.into_iter_gives (begun c.range-id-items.ensures.start c.range-id-items.ensures.end)

pub loop-id-preserved : goal.loop-id-preserved
loop-id-preserved c = turned c.loop-id.invariant c.in-Some.ensures.steps c.write_id.ensures
