-- One field behind the other: what is read goes on, and what is refused stays refused. So it is of each code, whatever its width and
-- whatever it names, and of each field that may be left out.
use mathlib.Core.Path.{◌≡◌, refl, ap}
use mathlib.Core.Bool.{Bool, true, false}
use mathlib.Core.List.{List}
use Prim.Native.Nat.{ℕ}
use Rattle.std.specs.Prelude.{Option, None, Some, cond}
use Rattle.sheet_fields.specs.Read.{Read, Reader, got, stop, give, onward, ◌then◌}
use Rattle.sheet_fields.specs.Fields.{number, known, coded, optional}

module _ {A B : Type 0} (f : Reader A) (g : A → Reader B) {s : List ℕ} where
  pub goes_on : {a : A} {t : List ℕ} → f s ≡ got a t → (f then g) s ≡ g a t
  goes_on e = ap (λ r. onward r g) e

  pub stays : {k : ℕ} → f s ≡ stop k → (f then g) s ≡ stop k
  stays e = ap (λ r. onward r g) e

-- a code of k bytes by its number: it stands for what the number names, and is refused where that is nothing or no number is read
pub names : {A : Type 0} (k : ℕ) (named : ℕ → Option A) (s : List ℕ) {r : Read ℕ} → number k s ≡ r → coded k named s ≡ onward r (λ n. known (named n))
names k named s e = ap (λ r. onward r (λ n. known (named n))) e

-- a field by its bit: read as it is without one, or not read at all
pub stands : {A : Type 0} (f : Reader A) (b : Bool) (s : List ℕ) {r : Read A} → f s ≡ r
    → optional b f s ≡ cond b (onward r (λ a. give (Some a))) (got None s)
unfolding optional
stands f true s e = ap (λ r. onward r (λ a. give (Some a))) e
stands f false s e = refl
