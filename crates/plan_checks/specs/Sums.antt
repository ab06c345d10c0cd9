-- What check 3 asks of the samples lent.
use Rattle.std.specs.Prelude.{Bool, length}
use Rattle.octets.specs.Numbers.{total}
use Rattle.panel.specs.declared.Samples.{Samples}
use Rattle.heif.specs.Refusal.{differ}

-- the lengths of a picture's samples do not sum to its bytes
abbrev pub bad_samples : Samples → Bool
bad_samples s = differ (total s.lengths.now) (length s.bytes.now)
