-- Each turn writes the first entry of what is owed, and the next begins where its payload ends.
use mathlib.Core.Path.{◌≡◌}
use Prim.Native.Nat.{◌+◌, ◌*◌}
use lib.ListN.{length}
use Rattle.std.specs.Slice.Iter.{iter_rest}
use Rattle.octets.specs.Numbers.{total}
use Rattle.octets.specs.Stores.{Room}
use Rattle.octets.proofs.Stores.{Owes}
use Rattle.panel.specs.Form.{form_of}
use Rattle.heif.specs.Iloc.{entry_size}
use Rattle.write_iloc.specs.Spans.{entries}
use Rattle.write_iloc.proofs.location.write_file_locations.Given as goal

abbrev pub invariant-loop-id : goal.invariant-loop-id
invariant-loop-id l =
    let f = form_of l.form in
    let k = entry_size f in
    let b = l.batch in
    let id = l.id-iterator.a.start in
    let rest = iter_rest l.id-iterator.b in
    record {
      counted : l.id-iterator.a.end ≡ id + length rest;
      end : l.offset + total rest ≡ b.offset + total b.lengths.now;
      room : Room l.out (k * length rest);
      owed : Owes l.initial.out (k * length b.lengths.now) (entries f b.ids.first.0 b.offset b.lengths.now) l.out (k * length rest) (entries f id l.offset rest);
    }
