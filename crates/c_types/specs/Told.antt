-- What a call tells: 0 and the length, or the number of the refusal and 0.
use Rattle.std.specs.Prelude.{◌≡◌, ℕ, Result, Ok, Err}
use Rattle.panel.specs.Outcome.{Outcome, made, refused}
use Rattle.c_types.specs.declared.Told.{Told}

abbrev pub told : Outcome → Told
told (made n) = record { refusal = 0; length = n }
told (refused k) = record { refusal = k; length = 0 }

-- told of an answer is its length, or a number of its refusal
abbrev pub Tells : {E : Type 0} → (E → ℕ → Type 0) → Result ℕ E → Told → Type 0
Tells Numbers (Ok length) t = t ≡ told (made length)
Tells Numbers (Err refusal) t = (number : ℕ) × Numbers refusal number × (t ≡ told (refused number))
