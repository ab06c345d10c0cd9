-- The head, and then a turn for each id.
use mathlib.Core.Path.{◌≡◌, refl}
use mathlib.Core.List.{flat_map}
use Prim.Native.Nat.{◌+◌}
use native.Mathlib.Nat.{mul-suc, mul-zero}
use native.Mathlib.Omega.{arith}
use lib.ListN.{length, length-map, drop}
use lib.Seq.{drop-length}
use Rattle.octets.proofs.Stores.{turn, paid}
use Rattle.panel.specs.Form.{form_of}
use Rattle.write_iref.specs.References.{numbers}
use Rattle.write_iref.proofs.References.{referred, left}
use Rattle.write_iref.proofs.reference.write_ref.Goals as goal

pub write_id-requires : goal.write_id-requires
write_id-requires c =
    let room = rw (left c.args.to.now c.loop-id-test.true) at c.loop-id.invariant.1 in
    omega (arith, room, mul-suc (form_of c.args.form).id (length (drop (c.loop-id.id-index + 1) c.args.to.now)))

pub loop-id-preserved : goal.loop-id-preserved
unfolding flat_map
loop-id-preserved c =
    let more = mul-suc (form_of c.args.form).id (length (drop (c.loop-id.id-index + 1) c.args.to.now)) in
    let before = rw (left c.args.to.now c.loop-id-test.true) at c.loop-id.invariant in
    (turn before.0 c.write_id.ensures refl (omega (arith, more)), omega (arith, before.1, more, c.write_id.ensures.end, c.write_id.ensures.kept))

pub returns : goal.returns
unfolding flat_map
returns c =
    let f = form_of c.args.form in
    let ids = c.args.to.now in
    let e : c.loop-id.id-index ≡ length ids = omega arith in
    let all = paid (rw (e, drop-length) at c.loop-id.invariant.0) refl (mul-zero f.id) in
    let count : length ids ≡ length (numbers ids) = simp length-map in
    referred f c.args.kind.now c.args.from.0 (numbers ids) c.write_ref_head.ensures all c.told-kind count
