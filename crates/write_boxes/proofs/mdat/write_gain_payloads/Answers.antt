-- Three payloads, or none.
use mathlib.Core.Path.{refl}
use mathlib.Core.List.{flatten}
use native.Mathlib.Omega.{arith}
use Rattle.octets.proofs.Stores.{◌▹◌, told, nothing}
use Rattle.write_boxes.proofs.mdat.write_gain_payloads.Goals as goal

pub returns-in-Some : goal.returns-in-Some
unfolding flatten
returns-in-Some c = rw c.in-Some.is (told (c.put.ensures ▹ c.put-in-Some.ensures ▹ c.put_part.ensures) refl (omega arith))

pub returns-in_default : goal.returns-in_default
unfolding flatten
returns-in_default c = rw c.in_default.is nothing
