-- The positions of a run as they are written, marked as essential or not.
use mathlib.Core.Path.{◌≡◌, refl, sym, ap, ◌∙◌}
use mathlib.Core.Bool.{Bool, true, false, cond}
use mathlib.Core.List.{List, [], ◌∷◌, ◌++◌}
use Prim.Native.Nat.{ℕ, suc, ◌+◌, ◌-◌, ◌<◌, ◌≤◌}
use native.Mathlib.Nat.{zero-add}
use native.Mathlib.Omega.{arith}
use Rattle.octets.specs.Numbers.{be}
use Rattle.octets.proofs.Numbers.{be_one}
use Rattle.heif.specs.Items.{ids_from}
use Rattle.plan_runs.specs.Runs.{Span, places}
use Rattle.plan_runs.specs.Lists.{marked}

-- the positions from `next` on that are below `end`
abbrev pub between : Bool → ℕ → ℕ → List ℕ
between e next end = marked e (ids_from next (end - next))

-- all of a run
pub between_all : (e : Bool) (r : Span) → between e r.first (r.first + r.count) ≡ marked e (places r)
between_all e r = let all : r.first + r.count - r.first ≡ r.count = omega arith in rw all refl

-- none
pub between_none : (e : Bool) (next end : ℕ) → end ≤ next → between e next end ≡ []
between_none e next end h = let none : end - next ≡ 0 = omega arith in rw none (nothing e)
  where
    nothing : (e : Bool) → marked e [] ≡ []
    nothing true = refl
    nothing false = refl

marked-cons : (e : Bool) (first : ℕ) (l : List ℕ) → marked e (first ∷ l) ≡ (cond e 128 0 + first) ∷ marked e l
marked-cons true first l = refl
marked-cons false first l = ap (λ (n : ℕ). n ∷ l) (sym (zero-add first))

-- the next with its mark m, and those behind it
pub between_more : (e : Bool) (m next end : ℕ) → m ≡ cond e 128 0 → next < end → m + next < 256 → between e next end ≡ be 1 (m + next) ++ between e (next + 1) end
between_more e m next end h more fits =
    let left : end - next ≡ suc (end - (next + 1)) = omega arith in
    let behind : next + 1 ≡ suc next = omega arith in
    let here : (cond e 128 0 + next) ∷ [] ≡ be 1 (m + next) = sym (be_one fits ∙ ap (λ (n : ℕ). (n + next) ∷ []) h) in
    rw (left, behind) (marked-cons e next _ ∙ ap (λ (l : List ℕ). l ++ marked e (ids_from (suc next) (end - suc next))) here)
