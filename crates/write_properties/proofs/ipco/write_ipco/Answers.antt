-- The head, and the properties of the colour, of alpha, those that may be absent, and the gain map's.
use mathlib.Core.Path.{refl}
use mathlib.Core.List.{append_assoc}
use Rattle.octets.proofs.Stores.{boxed, retold, ◌▸◌}
use Rattle.write_properties.proofs.ipco.write_ipco.Goals as goal

pub returns : goal.returns
returns c =
    let body = c.write_color_properties.ensures ▸ c.write_alpha_properties.ensures ▸ c.write_optional_properties.ensures ▸ c.write_ipco.ensures in
    retold (boxed "ipco" c.write_box.ensures body.wrote c.requires.whole) (simp append_assoc) refl
