-- Five properties that may be absent.
use mathlib.Core.Path.{refl}
use mathlib.Core.List.{append-nil}
use Rattle.octets.proofs.Stores.{retold, ◌▸◌}
use Rattle.panel.specs.Of.{panel_of}
use Rattle.write_properties.proofs.ipco.write_optional_properties.Goals as goal

pub returns : goal.returns
unfolding panel_of
returns c =
    let turn = rw c.irot_steps.ensures at c.write_irot.ensures in
    let mirror = rw c.imir_axis.ensures at c.write_imir.ensures in
    retold (c.write_secondary_colr.ensures ▸ turn ▸ mirror ▸ c.write_clli.ensures ▸ c.write_clap.ensures) (simp append-nil) refl
