-- Each turn writes one entry more.
use mathlib.Core.Path.{refl, sym}
use Rattle.octets.proofs.Lists.{flat_map-map}
use Rattle.octets.proofs.Stores.{told}
use Rattle.write_ids.proofs.Loops.{begun, turned, ended}
use Rattle.write_ipma.proofs.association.write_associations.Goals as goal

pub loop-id-init : goal.loop-id-init
loop-id-init c = rw c.into_iter-id-iterator.ensures.into_iter_gives (begun c.range-id-items.ensures.start c.range-id-items.ensures.end)

pub loop-id-preserved : goal.loop-id-preserved
loop-id-preserved c = turned c.loop-id.invariant c.in-Some.ensures.steps c.write_association.ensures

pub returns : goal.returns
returns c = told (ended c.loop-id.invariant c.in-None.ensures.steps.1.0) (sym (flat_map-map _ _ _)) refl
