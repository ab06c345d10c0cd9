-- Each turn writes one entry more.
use mathlib.Core.Path.{refl, sym}
use mathlib.Core.List.{[]}
use native.Mathlib.Omega.{arith}
use Rattle.octets.proofs.Boxes.{boxes-map}
use Rattle.octets.proofs.Stores.{told}
use Rattle.panel.specs.Form.{form_of}
use Rattle.heif.specs.Items.{ids_from}
use Rattle.heif.specs.Iinf.{infe}
use Rattle.write_ids.proofs.Loops.{begun, turned, ended}
use Rattle.write_iinf.proofs.picture.write_tile_infes.Goals as goal

pub loop-id-init : goal.loop-id-init
loop-id-init c = rw c.into_iter-id-iterator.ensures.into_iter_gives (begun c.range-id-items.ensures.start c.range-id-items.ensures.end)

pub loop-id-preserved : goal.loop-id-preserved
loop-id-preserved c = turned c.loop-id.invariant c.in-Some.ensures.steps (told c.write_infe.ensures.wrote refl (omega arith))

pub returns : goal.returns
returns c =
    let all = ended c.loop-id.invariant c.in-None.ensures.steps.1.0 in
    record { wrote = told all (sym (boxes-map (λ id. infe (form_of c.args.form) 1 id "hvc1" []) (ids_from c.args.ids.first.0 c.args.ids.count))) refl }
