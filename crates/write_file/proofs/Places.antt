-- The places that the writer of iloc states are the definition's.
use mathlib.Core.Path.{◌≡◌, refl, sym, ap, ◌∙◌}
use mathlib.Core.List.{List, [], ◌∷◌, ◌++◌, map, map-append, flatten}
use Prim.Native.Nat.{ℕ, ◌+◌}
use native.Mathlib.Omega.{arith}
use lib.ListN.{length}
use Rattle.std.specs.Prelude.{Option, None, Some, is_some, option_to_list}
use Rattle.octets.specs.Numbers.{◌‖◌, total}
use Rattle.panel.specs.Panel.{Tiles, Gain, Panel}
use Rattle.panel.specs.Parts.{given, tone_of, long}
use Rattle.heif.specs.Items.{shape, colour_grid, alpha_tile, alpha_grid, exif_id, Even}
use Rattle.heif.specs.Mdat.{exif_data_block, exif_payload, gain_payloads, other_payloads, exif_size}
use Rattle.heif.specs.Iloc.{extents, located, locations}
use Rattle.heif.specs.Idat.{descriptor}
use Rattle.heif.proofs.Mdat.{flatten-samples, lengths-samples, cut}
use Rattle.heif.proofs.Iloc.{locations_runs}
use Rattle.plan_items.specs.Payloads.{payload_lengths}
use Rattle.plan_layout.specs.Laid.{payloads_from}
use Rattle.write_iloc.specs.Spans.{spans}
use Rattle.write_iloc.specs.Locations.{other_sizes, placed}
use Rattle.write_iloc.proofs.Spans.{extents-spans}

-- ---- the sizes of the payloads behind the samples

exif-sizes : (e : Option (List ℕ)) → map length (exif_payload e) ≡ given (is_some e) (exif_size e ∷ [])
exif-sizes None = refl
exif-sizes (Some e) = let h : length (exif_data_block e) ≡ 4 + length e = omega arith in ap (λ (k : ℕ). k ∷ []) h

tone-sizes : (t : Option (List ℕ)) → map length (option_to_list t) ≡ given (is_some t) (long t ∷ [])
tone-sizes None = refl
tone-sizes (Some t) = refl

gain-sizes : (g : Option Gain) → map length (gain_payloads g) ≡ given (is_some g) ((payload_lengths g).sample ∷ (payload_lengths g).xmp ∷ []) ‖ given (is_some (tone_of g)) ((payload_lengths g).tmap ∷ [])
gain-sizes None = refl
gain-sizes (Some g) = ap (λ (r : List ℕ). length g.sample ∷ length g.xmp ∷ r) (tone-sizes g.tone)

other-lengths : (p : Panel) → map length (other_payloads p) ≡ other_sizes (shape p) (exif_size p.metadata.exif) (payload_lengths p.gain)
other-lengths p =
    map-append length (exif_payload p.metadata.exif) (gain_payloads p.gain) ∙ (λ i. exif-sizes p.metadata.exif i ++ gain-sizes p.gain i)

-- ---- iloc's entries

its-spans : (at : ℕ) (t : Tiles) → total t.lengths ≡ length t.bytes → extents at (cut t) ≡ spans at t.lengths
its-spans at t h = extents-spans at (cut t) ∙ ap (spans at) (lengths-samples t.lengths t.bytes (omega (arith, h)))

pub placed-locations : (p : Panel) → Even p → (at : ℕ) → placed (shape p) (payloads_from at p) p.tiles.lengths p.alpha.lengths ≡ locations at p
placed-locations p h at =
    let os = other_sizes (shape p) (exif_size p.metadata.exif) (payload_lengths p.gain) in
    let c = flatten-samples p.tiles.lengths p.tiles.bytes h.sum in
    let a = flatten-samples p.alpha.lengths p.alpha.bytes h.alpha_sum in
    let b : at + length (flatten (cut p.tiles)) ≡ at + length p.tiles.bytes = ap (λ (x : List ℕ). at + length x) c in
    let d : at + length (flatten (cut p.tiles)) + length (flatten (cut p.alpha)) ≡ at + length p.tiles.bytes + length p.alpha.bytes
    = λ i. at + length (c i) + length (a i) in
    let x : extents at (cut p.tiles) ≡ spans at p.tiles.lengths = its-spans at p.tiles h.sum in
    let y : extents (at + length (flatten (cut p.tiles))) (cut p.alpha) ≡ spans (at + length p.tiles.bytes) p.alpha.lengths
    = ap (λ (k : ℕ). extents k (cut p.alpha)) b ∙ its-spans (at + length p.tiles.bytes) p.alpha h.alpha_sum in
    let z : extents (at + length (flatten (cut p.tiles)) + length (flatten (cut p.alpha))) (other_payloads p) ≡ spans (at + length p.tiles.bytes + length p.alpha.bytes) os
    = ap (λ (k : ℕ). extents k (other_payloads p)) d ∙ extents-spans (at + length p.tiles.bytes + length p.alpha.bytes) (other_payloads p)
    ∙ ap (spans (at + length p.tiles.bytes + length p.alpha.bytes)) (other-lengths p) in
    sym (locations_runs at p h.counts
    ∙ (λ i. located 1 0 (x i) ‖ located (colour_grid (shape p)) 1 (record { offset = 0; size = length (descriptor p.dims) } ∷ []) ‖ located (alpha_tile (shape p)) 0 (y i)
    ‖ located (alpha_grid (shape p)) 1 (record { offset = length (descriptor p.dims); size = length (descriptor p.dims) } ∷ []) ‖ located (exif_id (shape p)) 0 (z i)))
