-- Each turn writes the first entry of what is owed, and the next begins where its payload ends.
use mathlib.Core.Path.{refl, sym}
use native.Mathlib.Nat.{mul-suc}
use native.Mathlib.Omega.{arith}
use lib.ListN.{length}
use Rattle.std.proofs.lemmas.List.{nil_from_length}
use Rattle.std.specs.Slice.Iter.{iter_rest}
use Rattle.octets.proofs.Stores.{owes, turn, paid}
use Rattle.panel.specs.Form.{form_of}
use Rattle.heif.specs.Iloc.{entry_size}
use Rattle.write_iloc.proofs.Spans.{entries_none, entries_more}
use Rattle.write_iloc.proofs.location.write_file_locations.Goals as goal

pub loop-id-init : goal.loop-id-init
loop-id-init c =
    let ids = c.zip-id-items.ensures.first in
    let rest = c.zip-id-items.ensures.second.0 in
    rw (c.into_iter-id-iterator.ensures.into_iter_gives, ids, rest, c.range.ensures.start, c.range.ensures.end)
    (record { counted = omega (arith, c.args.batch.counted); end = refl; room = c.requires; owed = owes refl })

pub write_location-requires : goal.write_location-requires
write_location-requires c =
    let k = entry_size (form_of c.args.form) in
    let room = rw c.in-Some.ensures.steps.1 at c.loop-id.invariant.room in
    omega (arith, room, mul-suc k (length (iter_rest c.next.new.self.b)))

pub overflow_add-offset : goal.overflow_add-offset
overflow_add-offset c = omega (arith, rw c.in-Some.ensures.steps.1 at c.loop-id.invariant.end, c.args.batch.end_fits)

pub loop-id-preserved : goal.loop-id-preserved
loop-id-preserved c =
    let f = form_of c.args.form in
    let ids = c.in-Some.ensures.steps.0 in
    let before = rw c.in-Some.ensures.steps.1 at c.loop-id.invariant in
    let rest = iter_rest c.next.new.self.b in
    let more = mul-suc (entry_size f) (length rest) in
    let id = c.loop-id.id-iterator.a.start in
    let size = c.in-Some.field-0-1.now in
    record {
      counted = omega (arith, before.counted, ids.0, ids.1.2);
      end = omega (arith, before.end);
      room = omega (arith, before.room, more, c.write_location.ensures.end, c.write_location.ensures.kept);
      owed = rw ids.1.2 (turn before.owed (rw ids.1.1 at c.write_location.ensures) (entries_more f id c.loop-id.offset size rest (omega arith)) (omega (arith, more)));
    }

pub returns : goal.returns
returns c =
    let none = nil_from_length (iter_rest c.loop-id.id-iterator.b) (grind (arith, c.in-None.ensures.steps)) in
    paid (rw none at c.loop-id.invariant.owed) (sym (entries_none (form_of c.args.form) c.loop-id.id-iterator.a.start c.loop-id.offset)) (omega arith)
