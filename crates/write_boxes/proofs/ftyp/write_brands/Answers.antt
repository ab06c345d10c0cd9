-- The brand, the version, the brand again, and two that every file has.
use Rattle.octets.proofs.Stores.{◌▹◌}
use Rattle.write_boxes.proofs.ftyp.write_brands.Goals as goal

pub returns : goal.returns
returns c = c.write_brand.ensures ▹ c.w32.ensures ▹ c.write_brand-2.ensures ▹ c.put.ensures
