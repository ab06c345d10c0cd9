-- Parts that may be absent.
use Rattle.std.specs.Prelude.{Bool, cond, List, [], ℕ, length, Option, None, Some}
use Rattle.panel.specs.Panel.{Gain}

-- l if so
abbrev pub given : {A : Type 0} → Bool → List A → List A
given b l = cond b l []

-- the tone map of a gain map
abbrev pub tone_of : Option Gain → Option (List ℕ)
tone_of None = None
tone_of (Some g) = g.tone

-- the length of a part, 0 where it is absent
abbrev pub long : Option (List ℕ) → ℕ
long None = 0
long (Some x) = length x
