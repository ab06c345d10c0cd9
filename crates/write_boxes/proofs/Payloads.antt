-- mdat holds the bytes as they are lent, where the lengths of the samples add up to them.
use mathlib.Core.Path.{◌≡◌, ap, ◌∙◌}
use mathlib.Core.List.{◌++◌}
use lib.ListN.{length}
use Rattle.octets.specs.Numbers.{total}
use Rattle.octets.specs.Boxes.{box}
use Rattle.octets.proofs.Lists.{flatten-append}
use Rattle.panel.specs.Panel.{Panel}
use Rattle.heif.specs.Mdat.{exif_payload, gain_payloads, mdat}
use Rattle.heif.proofs.Mdat.{flatten-samples, cut}
use Rattle.write_boxes.specs.Mdat.{payload_bytes}

pub mdat_parts : (p : Panel) → total p.tiles.lengths ≡ length p.tiles.bytes → total p.alpha.lengths ≡ length p.alpha.bytes → mdat p ≡ box "mdat" (payload_bytes p)
mdat_parts p h k =
    let exif = exif_payload p.metadata.exif in
    let gain = gain_payloads p.gain in
    let others = flatten-append exif gain in
    let alpha = flatten-append (cut p.alpha) (exif ++ gain) ∙ (λ i. flatten-samples p.alpha.lengths p.alpha.bytes k i ++ others i) in
    let tiles = flatten-append (cut p.tiles) (cut p.alpha ++ (exif ++ gain)) ∙ (λ i. flatten-samples p.tiles.lengths p.tiles.bytes h i ++ alpha i) in
    ap (box "mdat") tiles
