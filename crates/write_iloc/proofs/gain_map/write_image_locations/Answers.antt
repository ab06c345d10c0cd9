-- Two entries, or none.
use mathlib.Core.Path.{refl}
use native.Mathlib.Omega.{arith}
use Rattle.octets.proofs.Stores.{told, nothing}
use Rattle.panel.specs.Form.{form_of}
use Rattle.heif.specs.Items.{gain_id}
use Rattle.write_iloc.proofs.Spans.{entries_none}
use Rattle.write_iloc.proofs.gain_map.write_image_locations.Goals as goal

pub returns-then-has_gain : goal.returns-then-has_gain
returns-then-has_gain c =
    let both = rw c.gain_id.ensures at c.write_file_locations.ensures in
    rw (← c.if-has_gain.ensures) (told both refl (omega arith))

pub returns-else-has_gain : goal.returns-else-has_gain
returns-else-has_gain c = rw (← c.if-has_gain.ensures) (told nothing (entries_none (form_of c.args.form) (gain_id c.args.s) c.args.gain.offset) refl)
