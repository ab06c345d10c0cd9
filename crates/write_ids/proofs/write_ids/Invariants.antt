-- Each turn writes one id more.
use Rattle.octets.specs.Numbers.{be}
use Rattle.panel.specs.Form.{form_of}
use Rattle.write_ids.proofs.Loops.{Printed}
use Rattle.write_ids.proofs.write_ids.Given as goal

abbrev pub invariant-loop-id : goal.invariant-loop-id
invariant-loop-id l = Printed (be (form_of l.form).id) (form_of l.form).id l.initial.out l.fn.ids l.id-iterator l.out
