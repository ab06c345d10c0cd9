-- A brand, or nothing.
use Rattle.octets.proofs.Stores.{nothing}
use Rattle.write_boxes.proofs.ftyp.write_extra_brand.Goals as goal

pub returns-else-wanted : goal.returns-else-wanted
returns-else-wanted c = rw c.if-wanted.false nothing
