-- A head for each property, and what they hold.
use native.Mathlib.Omega.{arith}
use Rattle.panel.specs.Of.{panel_of}
use Rattle.plan_positions.proofs.Counted.{irot-placed, imir-placed, clli-placed, clap-placed, all_placed}
use Rattle.plan_sizes.proofs.ipco.ipco_size.Goals as goal

pub returns-clause-value : goal.returns-clause-value
unfolding panel_of
returns-clause-value c =
    λ h.
    let p = panel_of c.args.panel.now in
    let y = c.args.places.now in
    omega (arith, all_placed p y h, irot-placed p y h, imir-placed p y h, clli-placed p y h, clap-placed p y h)
