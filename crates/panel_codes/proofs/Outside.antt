-- A code that no value of a list has names nothing.
use mathlib.Core.Path.{◌≡◌, refl}
use mathlib.Core.Bool.{Bool, true, false, cond}
use mathlib.Core.List.{List, [], ◌∷◌}
use Prim.Native.Nat.{ℕ}
use lib.Dec.{eqb}
use borrow.Author.Tests.{eqb-true}
use Rattle.std.specs.Prelude.{None, Some}
use Rattle.panel.specs.Codes.{named}

module _ {A : Type 0} (code : A → ℕ) where
  -- no value of the list has the code n
  abbrev pub Misses : ℕ → List A → Type 0
  Misses n [] = Unit {0}
  Misses n (a ∷ l) = (n ≡ code a → ⊥) × Misses n l

  pub misses : (l : List A) (n : ℕ) → Misses n l → None ≡ named code l n
  misses [] n m = refl
  misses (a ∷ l) n m = go (eqb n (code a)) refl (misses l n m.1)
    where
      go : (b : Bool) → eqb n (code a) ≡ b → None ≡ named code l n → None ≡ cond b (Some a) (named code l n)
      go true e r = absurd (m.0 (eqb-true n (code a) e))
      go false e r = r
