-- The sizes of the boxes make the file, whose length decides check 5.
use native.Mathlib.Omega.{arith}
use lib.ListN.{length}
use borrow.Author.Tests.{lt-ltb, le-ltb}
use Rattle.panel.specs.Of.{panel_of}
use Rattle.panel.specs.Form.{form_of}
use Rattle.heif.specs.File.{file}
use Rattle.heif.specs.Answer.{length_answer}
use Rattle.heif.proofs.File.{length-file}
use Rattle.plan.proofs.plan_of.Goals as goal

pub returns-then-length-gt4294967295-clause-planned : goal.returns-then-length-gt4294967295-clause-planned
unfolding length_answer
returns-then-length-gt4294967295-clause-planned c =
    let f = form_of c.args.form in
    let p = panel_of c.args.panel.now in
    let passed = c.in_ok-items.ensures in
    let long = c.file_size-length.ensures.whole f p (c.sizes_of-sizes.ensures.sized passed.items c.places_of-places.ensures.placed) in
    let whole = length-file f p passed.even in
    rw (passed.left, lt-ltb 4294967295 (length (file f p)) (omega (arith, long, whole, c.if-length-gt4294967295.true)))

pub returns-clause-planned : goal.returns-clause-planned
returns-clause-planned c =
    let f = form_of c.args.form in
    let p = panel_of c.args.panel.now in
    let passed = c.in_ok-items.ensures in
    let sized = c.sizes_of-sizes.ensures.sized passed.items c.places_of-places.ensures.placed in
    let long = c.file_size-length.ensures.whole f p sized in
    let whole = length-file f p passed.even in
    record {
      accepted = rw (passed.left, le-ltb 4294967295 (length (file f p)) (omega (arith, long, whole, c.if-length-gt4294967295.false)));
      long = omega (arith, long, whole);
      items = passed.items;
      laid = c.placed.ensures f passed.even sized;
      placed = c.places_of-places.ensures.placed;
      count = c.places_of-places.ensures.count_bound;
      few = c.places_of-places.ensures.few;
    }
