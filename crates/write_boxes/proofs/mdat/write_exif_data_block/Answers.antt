-- The offset in four bytes, and the Exif bytes behind it.
use Rattle.octets.proofs.Stores.{◌▹◌}
use Rattle.write_boxes.proofs.mdat.write_exif_data_block.Goals as goal

pub returns : goal.returns
returns c = rw c.tiff_header_offset.ensures at c.w32.ensures ▹ c.put.ensures
