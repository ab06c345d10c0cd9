-- The gain image's entries and the tone map's.
use Rattle.octets.proofs.Stores.{◌▸◌, retold}
use Rattle.write_ids.proofs.Optional.{list_present, size_present}
use Rattle.write_iinf.proofs.gain_map.write_gain_infes.Goals as goal

pub returns : goal.returns
returns c =
    let tone = retold (rw c.tone.ensures at c.write_given_infe.ensures) (list_present _ c.args.s.tone _) (size_present _ c.args.s.tone _) in
    c.write_image_infes.ensures ▸ tone
