-- The head and the ids.
use mathlib.Core.Path.{refl, sym}
use Rattle.octets.specs.Numbers.{text}
use Rattle.panel.specs.Form.{form_of}
use Rattle.heif.specs.Items.{ids_from}
use Rattle.heif.proofs.Items.{length-ids_from}
use Rattle.write_iref.proofs.References.{referred}
use Rattle.write_iref.proofs.reference.write_tile_refs.Goals as goal

pub returns : goal.returns
returns c =
    let first = c.args.picture.tiles.first.0 in
    let n = c.args.picture.tiles.count in
    referred (form_of c.args.form) (text "dimg") c.args.picture.grid.0 (ids_from first n) c.write_ref_head.ensures c.write_ids.ensures refl (sym (length-ids_from first n))
