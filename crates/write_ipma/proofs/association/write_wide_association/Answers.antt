-- The id, the count and the associations.
use mathlib.Core.Path.{refl}
use native.Mathlib.Omega.{arith}
use Rattle.octets.proofs.Stores.{◌▹◌, told}
use Rattle.write_ipma.proofs.association.write_wide_association.Goals as goal

pub returns : goal.returns
returns c = told (c.write_wide_id.ensures ▹ told c.w8.ensures c.requires.count refl ▹ c.write_list.ensures) refl (omega arith)
