-- A copy into a part of the bytes is those stores one after the other.
use mathlib.Core.Path.{refl, ap, ◌∙◌}
use lib.ListN.{length}
use Rattle.octets.proofs.Stores.{copied, length-lay}
use Rattle.octets.proofs.Output.put.Goals as goal

pub returns : goal.returns
returns c =
    let e = copied c.args.self.now.bytes.now c.args.self.now.at c.requires c.copy.ensures in
    record { bytes = e; size = refl; end = refl; kept = ap length e ∙ length-lay _ _ _; same = refl }
