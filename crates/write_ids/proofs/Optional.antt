-- What is written of an item that is there if b holds: its bytes, and how many.
use mathlib.Core.Path.{◌≡◌, refl}
use mathlib.Core.Bool.{Bool, true, false, cond}
use mathlib.Core.List.{[], ◌∷◌}
use Prim.Native.Nat.{ℕ}
use Rattle.std.specs.Prelude.{is_some, option_map, option_to_list}
use Rattle.std.specs.Bool.{then_some}
use Rattle.panel.specs.Parts.{given}

pub list_present : {A B : Type 0} (f : A → B) (b : Bool) (x : A) → option_to_list (option_map f (then_some b x)) ≡ given b (f x ∷ [])
list_present f true x = refl
list_present f false x = refl

pub size_present : {A : Type 0} (n : ℕ) (b : Bool) (x : A) → cond (is_some (then_some b x)) n 0 ≡ cond b n 0
size_present n true x = refl
size_present n false x = refl
