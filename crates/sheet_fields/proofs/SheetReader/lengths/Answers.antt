-- One number more is put into the list, and at the end the list is all of them.
use Rattle.std.proofs.Common.{◌≡◌, ◌*◌, [], map, length, take_all, arith, refl}
use Rattle.std.proofs.lemmas.List.{take_more_set, map_more}
use Rattle.std.specs.Int.{w32, from_be_bytes}
use Rattle.sheet_fields.proofs.Lengths.{took, lengths_read}
use Rattle.sheet_fields.proofs.SheetReader.lengths.Goals as goal

pub loop-i-preserved : goal.loop-i-preserved
loop-i-preserved c =
    let l = c.loop-i in
    let long = took (4 * length c.args.list.now) c.args.self.now.left.now c.in_ok-bytes.field-0.now c.bytes.new.self.left.now c.in_ok-bytes.ensures.0 in
    rw (take_more_set l.list l.i c.from_be_bytes.result (omega (arith, c.as_chunks.ensures.front_len)), map_more (from_be_bytes w32) c.as_chunks.result.0.now l.i [] c.loop-i-test.true, l.invariant, c.from_be_bytes.ensures) refl

pub returns-clause-reads : goal.returns-clause-reads
returns-clause-reads c =
    let l = c.loop-i in
    let s = c.args.self.now.left.now in
    let x = c.in_ok-bytes.field-0.now in
    let t = c.bytes.new.self.left.now in
    let long = took (4 * length c.args.list.now) s x t c.in_ok-bytes.ensures.0 in
    let list : l.list ≡ map (from_be_bytes w32) c.as_chunks.result.0.now = rw (take_all l.i l.list (omega arith), take_all l.i c.as_chunks.result.0.now c.loop-i-test.false) at l.invariant in
    (rw (list, c.as_chunks.ensures.front) (lengths_read (length c.args.list.now) s x t c.in_ok-bytes.ensures.0), c.in_ok-bytes.ensures.1)
