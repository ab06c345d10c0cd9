-- An id and 14 bytes for each item.
use mathlib.Core.Path.{ap}
use Prim.Native.Nat.{ℕ, ◌*◌}
use native.Mathlib.Omega.{arith}
use Rattle.panel.specs.Form.{form_of}
use Rattle.plan_sizes.proofs.iloc_size.Goals as goal

pub returns-clause-value : goal.returns-clause-value
returns-clause-value c =
    let ids = ap (λ (n : ℕ). (form_of c.args.form).id * n) c.last_id-n.ensures.value in
    omega (arith, ids)
