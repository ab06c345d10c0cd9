-- The gain image's entries, and the tone map's behind them.
use Prim.Native.Nat.{◌+◌}
use Rattle.octets.proofs.Stores.{◌▹◌}
use Rattle.panel.specs.Form.{form_of}
use Rattle.write_iloc.proofs.Locations.{where_present}
use Rattle.write_iloc.proofs.gain_map.write_gain_locations.Goals as goal

pub returns : goal.returns
returns c =
    let s = c.args.s in
    let at = c.args.gain.offset in
    let l = c.args.gain.lengths in
    let tone = rw (c.then_some.ensures, c.has_tone.ensures) at c.write_given_location.ensures in
    let tone = where_present (form_of c.args.form) c.tmap_id.result (at + l.sample + l.xmp) l.tmap s.tone tone in
    c.write_image_locations.ensures ▹ rw c.tmap_id.ensures.value at tone
