-- 14496-12, 4.2: boxes. A box is its size in 32 bits, its type of four characters, and its body.
use Rattle.std.specs.Prelude.{Option, None, Some, List, [], ◌∷◌, ℕ, ◌+◌, length, get_or}
use Prim.Native.String.{String}
use Rattle.octets.specs.Numbers.{◌‖◌, be, text}

-- a box's type: the four bytes of a text
pub record Kind : Type 0 where
  pub first : ℕ
  pub second : ℕ
  pub third : ℕ
  pub fourth : ℕ

abbrev pub kind_of : List ℕ → Kind
kind_of t = record { first = get_or t 0 0; second = get_or t 1 0; third = get_or t 2 0; fourth = get_or t 3 0 }

abbrev pub kind : String → Kind
kind s = kind_of (text s)

abbrev pub tag : Kind → List ℕ
tag k = k.first ∷ k.second ∷ k.third ∷ k.fourth ∷ []

pub record Box : Type 0 where
  pub type : Kind
  pub body : List ℕ

abbrev pub box : String → List ℕ → Box
box s x = record { type = kind s; body = x }

-- of a type that is given as bytes
abbrev pub box_of : List ℕ → List ℕ → Box
box_of t x = record { type = kind_of t; body = x }

-- FullBox: a version in 8 bits and flags in 24 bits come first in the body
abbrev pub full : String → ℕ → ℕ → List ℕ → Box
full s version flags x = box s (be 1 version ‖ be 3 flags ‖ x)

-- a box of what may be absent
abbrev pub optional : String → Option (List ℕ) → List Box
optional s None = []
optional s (Some x) = box s x ∷ []

-- boxes as bytes, one after the other; the size counts the 8 bytes of itself and of the type
unfoldable pub boxes : List Box → List ℕ
boxes [] = []
boxes (b ∷ l) = be 4 (8 + length b.body) ‖ tag b.type ‖ b.body ‖ boxes l
