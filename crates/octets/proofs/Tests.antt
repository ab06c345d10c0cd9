-- Tests of two parts: which part decides, and what a test says of its parts.
use mathlib.Core.Path.{◌≡◌, refl, sym, ap, ◌∙◌}
use mathlib.Core.Bool.{Bool, true, false, ◌&&◌, ◌||◌}
use Prim.Native.Nat.{ℕ}
use native.Mathlib.Omega.{arith}

-- ---- the code stops at the first part, or goes on to the second

pub or_here : (a b : Bool) → a ≡ true → a ≡ (a || b)
or_here a b e = e ∙ sym (ap (λ (x : Bool). x || b) e)

pub or-next : (a b : Bool) → a ≡ false → b ≡ (a || b)
or-next a b e = sym (ap (λ (x : Bool). x || b) e)

pub and_here : (a b : Bool) → a ≡ false → a ≡ (a && b)
and_here a b e = e ∙ sym (ap (λ (x : Bool). x && b) e)

pub and-next : (a b : Bool) → a ≡ true → b ≡ (a && b)
and-next a b e = sym (ap (λ (x : Bool). x && b) e)

-- ---- the parts

-- of two tests neither holds
pub or_false : (a b : Bool) → (a || b) ≡ false → (a ≡ false) × (b ≡ false)
or_false true b e = absurd (let z : ◌≡◌ {A = ℕ} 0 1 = cc in omega arith)
or_false false b e = (refl, e)

-- one of them holds, and not the first
pub or-second : (a b : Bool) → (a || b) ≡ true → a ≡ false → b ≡ true
or-second a b e h = sym (ap (λ (x : Bool). x || b) h) ∙ e

-- the second holds only where the first does
pub or_absorbs : (a b : Bool) → (b ≡ true → a ≡ true) → (a || b) ≡ a
or_absorbs true b h = refl
or_absorbs false true h = sym (h refl)
or_absorbs false false h = refl

-- both hold
pub and_both : (a b : Bool) → (a && b) ≡ true → (a ≡ true) × (b ≡ true)
and_both true b e = (refl, e)
and_both false b e = absurd (let z : ◌≡◌ {A = ℕ} 0 1 = cc in omega arith)

-- the second does not hold
pub and-second_false : (a b : Bool) → b ≡ false → (a && b) ≡ false
and-second_false true b e = e
and-second_false false b e = refl
