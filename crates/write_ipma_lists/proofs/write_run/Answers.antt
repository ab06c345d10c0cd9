-- One position alone, or each turn writes one more.
use native.Mathlib.Omega.{arith}
use Rattle.octets.proofs.Stores.{turn, paid, told}
use Rattle.write_ipma_lists.proofs.Marks.{between_all, between_none, between_more}
use Rattle.write_ipma_lists.proofs.write_run.Goals as goal

pub loop-position-preserved : goal.loop-position-preserved
loop-position-preserved c =
    let more = between_more c.args.is_essential _ _ _ c.when-mark.ensures.value c.loop-position-test.true (omega arith) in
    (turn c.loop-position.invariant.0 c.w8-in-loop-position.ensures more (omega arith), omega (arith, c.w8-in-loop-position.ensures.end, c.w8-in-loop-position.ensures.kept))

pub returns : goal.returns
returns c =
    let run = rw (c.first-first.ensures.value, c.count-count.ensures.value) at c.loop-position.invariant.0 in
    told (paid run (between_none c.args.is_essential _ _ (omega arith)) (omega arith)) (between_all c.args.is_essential c.args.run) (omega arith)
