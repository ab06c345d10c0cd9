-- clap tells the visible size; and its length.
use mathlib.Core.Path.{◌≡◌, refl, sym}
use Rattle.std.specs.Prelude.{Option, None, Some}
use lib.ListN.{length}
use Rattle.octets.specs.Numbers.{be}
use Rattle.octets.specs.Boxes.{optional, boxes}
use Rattle.octets.proofs.Lists.{cancel}
use Rattle.octets.proofs.Numbers.{cancel_be}
use Rattle.octets.proofs.Boxes.{length_none, length-boxes}
use Rattle.panel.specs.Widths.{Of, VisibleFits}
use Rattle.panel.specs.declared.GridDims.{GridDims}
use Rattle.panel.specs.declared.VisibleSize.{VisibleSize}
use Rattle.panel.proofs.Parts.{some_inj, none-some}
use Rattle.heif.specs.Clap.{clap_payload, clap_count, clap_size}

-- whatever the decoded sizes
pub clap_inj : (d e : GridDims) (a b : Option VisibleSize) → Of VisibleFits a → Of VisibleFits b → clap_payload d a ≡ clap_payload e b → a ≡ b
clap_inj d e None None ha hb h = refl
clap_inj d e None (Some y) ha hb h = absurd (none-some h)
clap_inj d e (Some x) None ha hb h = absurd (none-some (sym h))
clap_inj d e (Some x) (Some y) ha hb h =
    let w = cancel_be 4 ha.w hb.w (some_inj h) in
    let one = cancel (be 4 1) (be 4 1) refl w.1 in
    let v = cancel_be 4 ha.h hb.h one.1 in
    λ i. Some (record { w = w.0 i; h = v.0 i })

pub length-clap : (d : GridDims) (v : Option VisibleSize) → length (optional "clap" (clap_payload d v)) ≡ clap_count v
length-clap d None = refl
length-clap d (Some v) = refl

pub length-boxes-clap : (d : GridDims) (v : Option VisibleSize) → length (boxes (optional "clap" (clap_payload d v))) ≡ clap_size v
length-boxes-clap d None = length_none
length-boxes-clap d (Some v) = simp (length-boxes, length_none)
