-- The part is that of the span, in the alpha bytes or in the colour bytes.
use native.Mathlib.Omega.{arith}
use borrow.Author.Rules.{rules}
use Rattle.plan_tile.specs.Lookup.{lent_tiles}
use Rattle.plan_tile.proofs.Answers.{holds}
use Rattle.plan_tile.proofs.tile.Goals as goal

pub overflow_add-result : goal.overflow_add-result
unfolding lent_tiles
overflow_add-result c = let h = (holds _ _ _ c.in-Ok.ensures.span).within in search rules

pub slice_bounds-result-end : goal.slice_bounds-result-end
unfolding lent_tiles
slice_bounds-result-end c = let h = (holds _ _ _ c.in-Ok.ensures.span).within in grind (arith, h)

pub returns-after-span-clause-bytes : goal.returns-after-span-clause-bytes
unfolding lent_tiles
returns-after-span-clause-bytes c = let h = (holds _ _ _ c.in-Ok.ensures.span).is in grind (arith, h)
