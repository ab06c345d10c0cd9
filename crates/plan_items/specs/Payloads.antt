-- How many bytes the payloads of a gain map have.
use Rattle.std.specs.Prelude.{Option, None, Some, length}
use Rattle.panel.specs.Panel.{Gain}
use Rattle.panel.specs.Parts.{long}
use Rattle.plan_items.specs.declared.payloads.PayloadLengths.{PayloadLengths}

abbrev pub payload_lengths : Option Gain → PayloadLengths
payload_lengths None = record { sample = 0; xmp = 0; tmap = 0 }
payload_lengths (Some g) = record { sample = length g.sample; xmp = length g.xmp; tmap = long g.tone }
