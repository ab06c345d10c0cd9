-- Reading bytes from the front: what a field says and the bytes behind it, or the number of a refusal.
use Rattle.std.specs.Prelude.{List, ℕ}

pub data Read (A : Type 0) : Type 0 where
  got : A → List ℕ → Read A
  stop : ℕ → Read A

-- what is read off the bytes that are left
abbrev pub Reader : Type 0 → Type 0
Reader A = List ℕ → Read A

-- a value that takes no bytes
abbrev pub give : {A : Type 0} → A → Reader A
give a s = got a s

abbrev pub refuse : {A : Type 0} → ℕ → Reader A
refuse k s = stop k

abbrev pub onward : {A B : Type 0} → Read A → (A → Reader B) → Read B
onward (got a rest) g = g a rest
onward (stop k) g = stop k

infixr 20 ◌then◌
-- one field, and then what follows it; the first refusal stands
abbrev pub ◌then◌ : {A B : Type 0} → Reader A → (A → Reader B) → Reader B
(f then g) s = onward (f s) g
