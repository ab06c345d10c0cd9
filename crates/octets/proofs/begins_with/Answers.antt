-- As the library's starts_with tells it.
use mathlib.Core.Path.{◌∙◌}
use Rattle.octets.proofs.Lists.{begins_started}
use Rattle.octets.proofs.begins_with.Goals as goal

pub returns : goal.returns
returns c = c.starts_with.ensures.value ∙ begins_started c.args.bytes.now c.args.front.now
