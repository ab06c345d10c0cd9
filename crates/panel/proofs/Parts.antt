-- Parts that may be absent: one that is present is not absent, and is one thing.
use mathlib.Core.Path.{◌≡◌, refl}
use mathlib.Core.Bool.{cond}
use Rattle.std.specs.Prelude.{None, Some, Option, is_some}
use mathlib.Core.List.{List}
use Prim.Native.Nat.{ℕ}
use Prim.Native.String.{String}
use native.Mathlib.Omega.{arith}
use lib.ListN.{length}
use Rattle.octets.specs.Boxes.{optional}

pub some_inj : {A : Type 0} {a b : A} → Some a ≡ Some b → a ≡ b
some_inj e = cc

pub none-some : {x : List ℕ} → None ≡ Some x → ⊥
none-some e = let z : ◌≡◌ {A = ℕ} 0 1 = cc in omega arith

pub length-optional : (s : String) (a : Option (List ℕ)) → length (optional s a) ≡ cond (is_some a) 1 0
length-optional s None = refl
length-optional s (Some x) = refl
