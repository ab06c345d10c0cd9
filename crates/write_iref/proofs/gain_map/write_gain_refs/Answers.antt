-- The gain image's references and the tone map's.
use Rattle.octets.proofs.Stores.{◌▸◌, retold}
use Rattle.write_ids.proofs.Optional.{list_present, size_present}
use Rattle.write_iref.proofs.gain_map.write_gain_refs.Goals as goal

pub returns : goal.returns
returns c =
    let tone = rw (c.tone.ensures, c.color_grid_id.ensures, c.gain_id.ensures) at c.write_given_ref.ensures in
    c.write_image_refs.ensures ▸ retold tone (list_present _ c.args.s.tone _) (size_present _ c.args.s.tone _)
