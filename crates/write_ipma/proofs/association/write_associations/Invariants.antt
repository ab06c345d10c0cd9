-- Each turn writes one entry more.
use lib.ListN.{length}
use Rattle.panel.specs.Form.{form_of}
use Rattle.heif.specs.Ipma.{◌with◌, association, association_size}
use Rattle.plan_runs.specs.Lists.{listed}
use Rattle.write_ids.proofs.Loops.{Printed}
use Rattle.write_ipma.proofs.association.write_associations.Given as goal

abbrev pub invariant-loop-id : goal.invariant-loop-id
invariant-loop-id l =
    let form = form_of l.form in
    let list = listed l.list in
    Printed (λ id. association form (id with list)) (association_size form (length list)) l.initial.out l.fn.ids l.id-iterator l.out
