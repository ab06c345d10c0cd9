-- The gain image's entry and the tone map's.
use mathlib.Core.Path.{sym, ap}
use mathlib.Core.List.{flat_map}
use Rattle.octets.proofs.Lists.{flat_map-append}
use Rattle.octets.proofs.Stores.{◌▹◌, told}
use Rattle.panel.specs.Form.{form_of}
use Rattle.heif.specs.Ipma.{association}
use Rattle.heif.proofs.Ipma.{length-gain_entries}
use Rattle.plan_runs.specs.Roles.{its_of}
use Rattle.write_ids.proofs.Optional.{list_present, size_present}
use Rattle.write_ipma.proofs.write_gain_associations.Goals as goal

pub returns : goal.returns
returns c =
    let f = form_of c.args.form in
    let s = c.args.s in
    let image = rw (c.gain.ensures, c.image_list.ensures) at c.write_given_association.ensures in
    let tone = rw (c.tone.ensures, c.tone_list.ensures) at c.write_given_association-2.ensures in
    let entries = flat_map (association f) in
    let image = told image (ap entries (list_present _ s.gain _)) (size_present _ s.gain _) in
    let tone = told tone (ap entries (list_present _ s.tone _)) (size_present _ s.tone _) in
    told (image ▹ tone) (sym (flat_map-append (association f) _ _)) (sym (length-gain_entries f s (its_of c.args.y.now)))
