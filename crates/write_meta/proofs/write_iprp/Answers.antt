-- The head, ipco and ipma.
use mathlib.Core.Path.{refl}
use native.Mathlib.Omega.{arith}
use Rattle.octets.proofs.Stores.{boxed, retold, ◌▸◌}
use Rattle.write_meta.proofs.write_iprp.Goals as goal

pub write_ipco-requires-clause-whole : goal.write_ipco-requires-clause-whole
write_ipco-requires-clause-whole c = c.requires.sections.ipco

pub write_ipma-requires-clause-room : goal.write_ipma-requires-clause-room
write_ipma-requires-clause-room c =
    omega (arith, c.requires.room, c.write_box.ensures.end, c.write_box.ensures.kept, c.write_ipco.ensures.wrote.end, c.write_ipco.ensures.wrote.kept)

pub write_ipma-requires-clause-size_value : goal.write_ipma-requires-clause-size_value
write_ipma-requires-clause-size_value c = c.requires.sections.ipma

pub returns : goal.returns
returns c = retold (boxed "iprp" c.write_box.ensures (c.write_ipco.ensures ▸ c.write_ipma.ensures).wrote c.requires.sections.iprp) refl (omega arith)
