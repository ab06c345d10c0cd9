-- The descriptor is as long as its size says.
use native.Mathlib.Omega.{arith}
use Rattle.panel.specs.Of.{panel_of}
use Rattle.heif.proofs.Idat.{length-descriptor}
use Rattle.plan_layout.proofs.payloads_of.Goals as goal

pub returns : goal.returns
unfolding panel_of
returns c = grind (arith, length-descriptor c.args.panel.now.dims)
