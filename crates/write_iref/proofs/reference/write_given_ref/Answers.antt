-- One reference, or none.
use Rattle.octets.proofs.Stores.{no_boxes}
use Rattle.write_iref.proofs.reference.write_given_ref.Goals as goal

pub returns-in_default : goal.returns-in_default
returns-in_default c = rw c.in_default.is no_boxes
