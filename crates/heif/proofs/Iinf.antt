-- How many entries iinf has, and how long it is, in every form.
use mathlib.Core.Path.{◌≡◌, ap, ◌∙◌}
use mathlib.Core.Bool.{cond}
use mathlib.Core.List.{List, [], ◌∷◌}
use Prim.Native.Nat.{ℕ, ◌+◌, ◌*◌}
use Prim.Native.String.{String}
use native.Mathlib.Omega.{arith}
use native.Mathlib.Nat.{add-mul}
use lib.ListN.{length, length-append, length-map}
use Rattle.octets.specs.Numbers.{◌‖◌, be, text}
use Rattle.octets.specs.Boxes.{boxes}
use Rattle.octets.proofs.Numbers.{length-be}
use Rattle.octets.proofs.Boxes.{length_none, length-boxes, length-boxes-append, length-boxes-map}
use Rattle.panel.specs.Form.{Form}
use Rattle.panel.specs.declared.Shape.{Shape}
use Rattle.heif.specs.Iinf.{infes, infe, tile_infes, gain_infes, iinf, iinf_size, infe_size}
use Rattle.heif.specs.Items.{last_id, ids_from, colour_grid, alpha_grid, exif_id, gain_id}
use Rattle.heif.proofs.Items.{length-ids_from, length-given, boxes-given, times_given, plus_given}

pub length-infes : (f : Form) (s : Shape) → length (infes f s) ≡ last_id s
length-infes f s = simp (length-append, length-map, length-ids_from, length-given) (omega arith)

length-infe : (f : Form) (flags id : ℕ) (type : String) (more : List ℕ)
    → length (infe f flags id type more).body ≡ 7 + f.id + length (text type) + length more
length-infe f flags id type more = simp (length-append, length-be) (omega arith)

length-boxes-tile_infes : (f : Form) (first n : ℕ) → length (boxes (tile_infes f first n)) ≡ n * infe_size f
length-boxes-tile_infes f first n =
    length-boxes-map (λ id. infe f 1 id "hvc1" []) (11 + f.id) (λ id. omega (arith, length-infe f 1 id "hvc1" [])) (ids_from first n)
    ∙ rw length-ids_from (ap (λ (k : ℕ). n * k) (omega arith))

-- the entries, and 20 bytes of the one that has a content type
length-boxes-gain_infes : (f : Form) (s : Shape)
    → length (boxes (gain_infes f s)) ≡ (cond s.gain 2 0 + cond s.tone 1 0) * infe_size f + cond s.gain 20 0
length-boxes-gain_infes f s =
    let k = infe_size f in
    let g = gain_id s in
    let rdf = text "application/rdf+xml" ‖ be 1 0 in
    let gain = boxes-given s.gain (infe f 1 g "hvc1" [] ∷ infe f 1 (g + 1) "mime" rdf ∷ []) {n = 2 * k + 20}
    (omega (arith, length-infe f 1 g "hvc1" [], length-infe f 1 (g + 1) "mime" rdf)) in
    let tone = boxes-given s.tone (infe f 0 (g + 2) "tmap" [] ∷ []) {n = 1 * k} (omega (arith, length-infe f 0 (g + 2) "tmap" [])) in
    simp (length-boxes-append, gain, tone, add-mul, times_given, plus_given) (omega arith)

pub length-iinf : (f : Form) (s : Shape) → length (iinf f s).body ≡ iinf_size f s
length-iinf f s =
    let k = infe_size f in
    let exif = boxes-given s.exif (infe f 0 (exif_id s) "Exif" [] ∷ []) {n = 1 * k} (omega (arith, length-infe f 0 (exif_id s) "Exif" [])) in
    simp (length-append, length-be, length-boxes-append, length-boxes, length_none, length-boxes-tile_infes, exif, add-mul, times_given)
    (omega (
      arith,
      length-infe f 0 (colour_grid s) "grid" [],
      length-infe f 0 (alpha_grid s) "grid" [],
      simp (length-boxes-append, add-mul, times_given) at (length-boxes-gain_infes f s),
    ))
