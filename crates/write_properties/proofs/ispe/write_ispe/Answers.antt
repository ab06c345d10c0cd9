-- The head, then the two sizes.
use mathlib.Core.Path.{refl}
use Rattle.octets.proofs.Stores.{◌▹◌, full_boxed}
use Rattle.write_properties.proofs.ispe.write_ispe.Goals as goal

pub returns : goal.returns
returns c = full_boxed "ispe" 0 0 c.write_fullbox.ensures (c.w32.ensures ▹ c.w32-2.ensures) refl
