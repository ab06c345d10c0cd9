-- The Exif's entry, and the gain map's behind it.
use Rattle.octets.proofs.Stores.{◌▹◌}
use Rattle.panel.specs.Form.{form_of}
use Rattle.write_iloc.proofs.Locations.{where_present, given_total}
use Rattle.write_iloc.proofs.write_other_locations.Goals as goal

pub returns : goal.returns
returns c =
    let s = c.args.s in
    let p = c.args.payloads in
    let exif = rw (c.then_some.ensures, c.has_exif.ensures) at c.write_given_location.ensures in
    let exif = where_present (form_of c.args.form) c.exif_id.result p.other p.exif s.exif exif in
    let gain = rw (c.when.ensures.value, c.has_exif-2.ensures, given_total s.exif p.exif) at c.write_gain_locations.ensures in
    rw c.exif_id.ensures at exif ▹ gain
