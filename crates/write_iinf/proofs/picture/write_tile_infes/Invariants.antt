-- Each turn writes one entry more.
use mathlib.Core.List.{List, [], ◌∷◌}
use Prim.Native.Nat.{ℕ}
use Rattle.octets.specs.Boxes.{boxes}
use Rattle.panel.specs.Form.{Form, form_of}
use Rattle.heif.specs.Iinf.{infe, infe_size}
use Rattle.write_ids.proofs.Loops.{Printed}
use Rattle.write_iinf.proofs.picture.write_tile_infes.Given as goal

-- the bytes of a tile's entry
abbrev pub print : Form → ℕ → List ℕ
print f id = boxes (infe f 1 id "hvc1" [] ∷ [])

abbrev pub invariant-loop-id : goal.invariant-loop-id
invariant-loop-id l = Printed (print (form_of l.form)) (infe_size (form_of l.form)) l.initial.out l.fn.ids l.id-iterator l.out
