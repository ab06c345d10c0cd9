-- Ids and versions as a form has them.
use mathlib.Core.Path.{◌≡◌, refl, ap}
use mathlib.Core.List.{List, [], ◌∷◌}
use Prim.Native.Nat.{ℕ, ◌+◌}
use Prim.Native.String.{String}
use native.Mathlib.Nat.{zero-add}
use Rattle.octets.specs.Boxes.{kind, tag, full}
use Rattle.octets.specs.Numbers.{◌‖◌, be}
use Rattle.octets.specs.declared.Output.{Output}
use Rattle.octets.specs.Stores.{Wrote, Boxed}
use Rattle.octets.proofs.Stores.{full_boxed, retold}

-- a box whose version is 0 in the ordinary form
pub raised : {l m o : Output} {x : List ℕ} {n s : ℕ} (t : String) (v f : ℕ) → Wrote l 12 (be 4 s ‖ tag (kind t) ‖ be 1 (0 + v) ‖ be 3 f) m → Wrote m n x o
    → s ≡ 12 + n → Boxed l (12 + n) (full t v f x ∷ []) o
raised {x = x} t v f a c h = retold (full_boxed t (0 + v) f a c h) (ap (λ (k : ℕ). full t k f x ∷ []) (zero-add v)) refl
