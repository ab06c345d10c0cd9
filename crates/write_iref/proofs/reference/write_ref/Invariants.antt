-- The ids that are still to come are owed.
use Prim.Native.Nat.{◌*◌}
use mathlib.Core.List.{flat_map}
use lib.ListN.{length, drop}
use Rattle.octets.specs.Numbers.{be}
use Rattle.octets.specs.Stores.{Room}
use Rattle.octets.proofs.Stores.{Owes}
use Rattle.panel.specs.Form.{form_of}
use Rattle.write_iref.specs.References.{numbers}
use Rattle.write_iref.proofs.reference.write_ref.Given as goal

abbrev pub invariant-loop-id : goal.invariant-loop-id
invariant-loop-id l =
    let k = (form_of l.form).id in
    let rest = drop l.id-index l.to in
    Owes l.initial.out (k * length l.to) (flat_map (be k) (numbers l.to)) l.out (k * length rest) (flat_map (be k) (numbers rest)) × Room l.out (k * length rest)
