-- The entry, or nothing.
use mathlib.Core.Path.{refl, sym}
use mathlib.Core.List.{flat_map}
use Rattle.octets.proofs.Lists.{flat_map_one}
use Rattle.octets.proofs.Stores.{told, nothing}
use Rattle.write_ipma.proofs.association.write_given_association.Goals as goal

pub returns-in-Some : goal.returns-in-Some
returns-in-Some c = rw c.in-Some.is (told c.write_association.ensures (sym (flat_map_one _ _)) refl)

pub returns-in_default : goal.returns-in_default
unfolding flat_map
returns-in_default c = rw c.in_default.is nothing
