-- Bytes, or none.
use mathlib.Core.Path.{refl, sym}
use mathlib.Core.List.{flatten}
use Rattle.octets.proofs.Lists.{flatten_one}
use Rattle.octets.proofs.Stores.{told, nothing}
use Rattle.write_boxes.proofs.mdat.put_part.Goals as goal

pub returns-in-Some : goal.returns-in-Some
returns-in-Some c = rw c.in-Some.is (told c.put.ensures (sym (flatten_one _)) refl)

pub returns-in_default : goal.returns-in_default
unfolding flatten
returns-in_default c = rw c.in_default.is nothing
