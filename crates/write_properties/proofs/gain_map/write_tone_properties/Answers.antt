-- The tone map's properties, or nothing.
use mathlib.Core.Path.{◌≡◌, refl, sym}
use mathlib.Core.Bool.{true, false}
use mathlib.Core.List.{append-nil}
use native.Mathlib.Omega.{arith}
use Rattle.std.specs.Prelude.{Option, None, Some, is_some}
use Rattle.octets.proofs.Stores.{retold, no_boxes, ◌▸◌}
use Rattle.write_properties.proofs.gain_map.write_tone_properties.Goals as goal

-- one that is present is some value
some_of : {A : Type 0} (o : Option A) → is_some o ≡ true → (x : A) × (o ≡ Some x)
some_of None e = cc
some_of (Some x) e = (x, refl)

-- one that is absent is none
none_of : {A : Type 0} (o : Option A) → is_some o ≡ false → o ≡ None
none_of None e = refl
none_of (Some x) e = cc

pub returns-then-is_some : goal.returns-then-is_some
returns-then-is_some c =
    let tone = some_of c.args.g.now.tmap (sym c.if-is_some.ensures) in
    rw tone.1 (retold (c.write_ispe.ensures ▸ c.write_pixi.ensures ▸ c.write_alternate_colr.ensures) (simp append-nil) (omega arith))

pub returns-else-is_some : goal.returns-else-is_some
returns-else-is_some c = rw (none_of c.args.g.now.tmap (sym c.if-is_some.ensures)) no_boxes
