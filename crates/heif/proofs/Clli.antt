-- clli tells the light level; and its length.
use mathlib.Core.Path.{◌≡◌, refl, sym}
use mathlib.Core.Bool.{cond}
use Rattle.std.specs.Prelude.{Option, None, Some, is_some}
use mathlib.Core.List.{[]}
use lib.ListN.{length}
use Rattle.octets.specs.Boxes.{optional, boxes}
use Rattle.octets.proofs.Numbers.{cancel_be}
use Rattle.octets.proofs.Boxes.{length_none, length-boxes}
use Rattle.panel.specs.Widths.{Of, LightFits}
use Rattle.panel.specs.declared.metadata.ContentLightLevel.{ContentLightLevel}
use Rattle.panel.proofs.Parts.{some_inj, none-some}
use Rattle.heif.specs.Clli.{clli_payload, clli_size}

pub clli_inj : (a b : Option ContentLightLevel) → Of LightFits a → Of LightFits b → clli_payload a ≡ clli_payload b → a ≡ b
clli_inj None None ha hb e = refl
clli_inj None (Some y) ha hb e = absurd (none-some e)
clli_inj (Some x) None ha hb e = absurd (none-some (sym e))
clli_inj (Some x) (Some y) ha hb e =
    let c = cancel_be 2 ha.content hb.content (some_inj e) in
    let a = cancel_be 2 {x = []} {y = []} ha.average hb.average c.1 in
    λ i. Some (record { max_content_light_level = c.0 i; max_pic_average_light_level = a.0 i })

pub length-clli : (l : Option ContentLightLevel) → length (optional "clli" (clli_payload l)) ≡ cond (is_some l) 1 0
length-clli None = refl
length-clli (Some l) = refl

pub length-boxes-clli : (l : Option ContentLightLevel) → length (boxes (optional "clli" (clli_payload l))) ≡ clli_size l
length-boxes-clli None = length_none
length-boxes-clli (Some l) = simp (length-boxes, length_none)
