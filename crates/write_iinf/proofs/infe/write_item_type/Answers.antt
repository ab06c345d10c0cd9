-- Four fields.
use mathlib.Core.Path.{refl}
use native.Mathlib.Omega.{arith}
use Rattle.octets.proofs.Stores.{◌▹◌, told}
use Rattle.write_iinf.proofs.infe.write_item_type.Goals as goal

pub returns : goal.returns
returns c = told (c.w16.ensures ▹ c.put.ensures ▹ c.w8.ensures ▹ c.put-2.ensures) refl (omega arith)
