-- The tiles' entries and the grid's.
use Rattle.octets.proofs.Stores.{◌▹◌}
use Rattle.write_iloc.proofs.write_picture_locations.Goals as goal

pub returns : goal.returns
returns c = c.write_file_locations.ensures ▹ c.write_location.ensures
