-- The head, then the record.
use Rattle.octets.proofs.Stores.{boxed}
use Rattle.write_properties.proofs.hvcc.write_hvcc.Goals as goal

pub returns : goal.returns
returns c = boxed "hvcC" c.write_box.ensures c.put.ensures c.size_of.ensures
