-- Numbers and texts as bytes, and what bytes begin with.
use Rattle.std.specs.Prelude.{Bool, true, false, ◌&&◌, List, [], ◌∷◌, ◌++◌, ℕ, zero, suc, ◌+◌, ◌*◌, ◌/◌, ◌%◌, ◌^◌, eqb, length}
use Prim.Native.Char.{code}
use Prim.Native.String.{String, [] as ε, ◌∷◌ as ◌◂◌}

infixr 60 ◌‖◌
-- one list after the other: the library's append, grouped to the right
abbrev pub ◌‖◌ : {A : Type 0} → List A → List A → List A
a ‖ b = a ++ b

-- the number n in k bytes, the highest first
abbrev pub be : ℕ → ℕ → List ℕ
be zero n = []
be (suc k) n = n / 2 ^ (8 * k) % 256 ∷ be k n

-- bytes as a number, the highest first
abbrev pub value : List ℕ → ℕ
value [] = 0
value (b ∷ l) = b * 2 ^ (8 * length l) + value l

-- a text of the ASCII set, a byte a character
abbrev pub text : String → List ℕ
text ε = []
text (c ◂ s) = code c ∷ text s

-- the sum of a list of numbers
abbrev pub total : List ℕ → ℕ
total [] = 0
total (n ∷ l) = n + total l

infix 50 ◌begins_with◌
-- whether bytes begin with others
abbrev pub ◌begins_with◌ : List ℕ → List ℕ → Bool
l begins_with [] = true
[] begins_with (m ∷ front) = false
(b ∷ l) begins_with (m ∷ front) = eqb m b && l begins_with front
