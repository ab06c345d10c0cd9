-- Five properties.
use Rattle.octets.proofs.Stores.{◌▸◌}
use Rattle.panel.specs.Of.{panel_of}
use Rattle.write_properties.proofs.ipco.write_color_properties.Goals as goal

pub returns : goal.returns
unfolding panel_of
returns c =
    let depth = rw c.bits.ensures at c.write_pixi.ensures in
    c.write_hvcc.ensures ▸ c.write_ispe.ensures ▸ c.write_ispe-2.ensures ▸ c.write_colr.ensures ▸ depth
