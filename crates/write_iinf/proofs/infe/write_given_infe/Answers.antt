-- One entry, or none.
use Rattle.octets.proofs.Stores.{no_boxes}
use Rattle.write_iinf.proofs.infe.write_given_infe.Goals as goal

pub returns-in_default : goal.returns-in_default
returns-in_default c = rw c.in_default.is no_boxes
