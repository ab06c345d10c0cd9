-- ipma is as large as the definition has it, since its positions are the definition's.
use native.Mathlib.Omega.{arith}
use Rattle.panel.specs.Of.{panel_of}
use Rattle.panel.specs.Form.{form_of}
use Rattle.plan_positions.proofs.Sizes.{ipma-by_runs}
use Rattle.plan_sizes.proofs.sizes_of.Goals as goal

pub returns-clause-sized : goal.returns-clause-sized
unfolding panel_of
returns-clause-sized c =
    λ e h.
    let ipma = ipma-by_runs (form_of c.args.form) (panel_of c.args.panel.now) c.args.places.now h in
    grind (arith, ipma)
