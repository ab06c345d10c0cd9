-- A location from the code's numbers, and the items' locations: by the shape, where each run of payloads begins, and their sizes.
use Rattle.std.specs.Prelude.{List, [], ◌∷◌, ℕ, ◌+◌}
use Rattle.octets.specs.Numbers.{◌‖◌, total}
use Rattle.panel.specs.Form.{Form}
use Rattle.panel.specs.Parts.{given}
use Rattle.panel.specs.declared.Shape.{Shape}
use Rattle.heif.specs.Items.{colour_grid, alpha_tile, alpha_grid, exif_id, gain_id, tone_id}
use Rattle.heif.specs.Iloc.{Location, located}
use Rattle.plan_items.specs.declared.payloads.PayloadLengths.{PayloadLengths}
use Rattle.plan_items.specs.declared.payloads.Payloads.{Payloads}
use Rattle.write_iloc.specs.Spans.{spans, location, entries}
use Rattle.write_iloc.specs.declared.location.Location.{Location as Entry}
use Rattle.write_iloc.specs.declared.location.Method.{Method}
use Rattle.write_iloc.specs.declared.location.Method.TheVariants.{File, Idat}

abbrev pub method_code : Method → ℕ
method_code File = 0
method_code Idat = 1

abbrev pub location_of : Entry → Location
location_of l = location l.id.0 (method_code l.method) l.offset l.size

-- the sizes of the gain map's payloads, of those that are present
abbrev pub sizes : Shape → PayloadLengths → List ℕ
sizes s l = given s.gain (l.sample ∷ l.xmp ∷ []) ‖ given s.tone (l.tmap ∷ [])

-- the sizes of the payloads behind the alpha samples, where an Exif payload has e bytes
abbrev pub other_sizes : Shape → ℕ → PayloadLengths → List ℕ
other_sizes s e g = given s.exif (e ∷ []) ‖ sizes s g

-- the gain map's entries, whose payloads lie back to back from `at` on
abbrev pub gain_entries : Form → Shape → ℕ → PayloadLengths → List ℕ
gain_entries f s at l =
    entries f (gain_id s) at (given s.gain (l.sample ∷ l.xmp ∷ []))
    ‖ entries f (tone_id s) (at + l.sample + l.xmp) (given s.tone (l.tmap ∷ []))

-- the entries of the Exif and of the gain map, whose payloads lie back to back behind the alpha samples
abbrev pub other_entries : Form → Shape → Payloads → List ℕ
other_entries f s p =
    let exif = given s.exif (p.exif ∷ []) in
    entries f (exif_id s) p.other exif ‖ gain_entries f s (p.other + total exif) p.gain

-- with the lengths of the colour samples and of the alpha samples
abbrev pub placed : Shape → Payloads → List ℕ → List ℕ → List Location
placed s p colours alphas =
    located 1 0 (spans p.color colours)
    ‖ located (colour_grid s) 1 (record { offset = 0; size = p.descriptor } ∷ [])
    ‖ located (alpha_tile s) 0 (spans p.alpha alphas)
    ‖ located (alpha_grid s) 1 (record { offset = p.descriptor; size = p.descriptor } ∷ [])
    ‖ located (exif_id s) 0 (spans p.other (other_sizes s p.exif p.gain))
