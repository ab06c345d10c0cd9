-- The plan, and where it is made and the output has room, the file.
use Rattle.std.proofs.Common.{rules}
use Rattle.panel.specs.Form.{form_of}
use Rattle.panel.specs.Of.{panel_of}
use Rattle.write_file.proofs.Promises.{by-refusal, by-room, by_writing}
use Rattle.write_file.proofs.wrap_in_form.Goals as goal

pub returns-in_err-plan-clause-promised : goal.returns-in_err-plan-clause-promised
returns-in_err-plan-clause-promised c =
    let refused = by-refusal (form_of c.args.form) (panel_of c.args.panel.now) c.args.out.now c.in_err-plan.field-0.0 c.in_err-plan.ensures.planned in
    search (rules, refused)

pub returns-then-out-plan-clause-promised : goal.returns-then-out-plan-clause-promised
returns-then-out-plan-clause-promised c = by-room _ _ c.in_ok-plan.ensures.planned _ c.if-out-plan.true

pub returns-clause-promised : goal.returns-clause-promised
returns-clause-promised c = by_writing _ _ c.in_ok-plan.ensures.planned c.if-out-plan.false c.write_file.ensures
