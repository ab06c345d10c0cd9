-- A count taken modulo 256 has the same lowest 8 bits.
use mathlib.Core.Path.{ap, ◌∙◌}
use Rattle.octets.specs.Numbers.{be}
use Rattle.octets.proofs.Numbers.{be-mod}
use Rattle.write_ipma.proofs.association.entry_count.Goals as goal

pub returns : goal.returns
returns c = be-mod 0 1 c.count.result ∙ ap (be 1) c.count.ensures.value
