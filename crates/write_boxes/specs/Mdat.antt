-- What mdat holds, from the bytes as they are lent: the samples are not cut and joined again.
use mathlib.Core.List.{List, flatten}
use Prim.Native.Nat.{ℕ}
use Rattle.octets.specs.Numbers.{◌‖◌}
use Rattle.panel.specs.Panel.{Panel}
use Rattle.heif.specs.Mdat.{exif_payload, gain_payloads}

abbrev pub payload_bytes : Panel → List ℕ
payload_bytes p = p.tiles.bytes ‖ p.alpha.bytes ‖ flatten (exif_payload p.metadata.exif) ‖ flatten (gain_payloads p.gain)
