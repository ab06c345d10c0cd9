-- The marker's six bytes are the definition's, and the test decides as there.
use mathlib.Core.Path.{sym, ap, ◌∙◌}
use mathlib.Core.Bool.{Bool, cond}
use Prim.Native.Nat.{ℕ}
use Rattle.heif.specs.Mdat.{tiff_header_offset}
use Rattle.plan_items.proofs.exif.tiff_header_offset.Goals as goal

pub returns-then-begins_with : goal.returns-then-begins_with
unfolding tiff_header_offset
returns-then-begins_with c = ap (λ (b : Bool). cond {A = ℕ} b 6 0) (sym c.if-begins_with.true ∙ c.begins_with.ensures)

pub returns-else-begins_with : goal.returns-else-begins_with
unfolding tiff_header_offset
returns-else-begins_with c = ap (λ (b : Bool). cond {A = ℕ} b 6 0) (sym c.if-begins_with.false ∙ c.begins_with.ensures)
