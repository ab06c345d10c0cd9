-- What the code's conversion of 16 bits to a map answers.
use Rattle.std.specs.Prelude.{◌≡◌, ℕ, Result, MatchResult}
use Rattle.sheet_fields.specs.Read.{give, refuse}
use Rattle.sheet_fields.specs.Reads.{sheet_number}
use Rattle.sheet_fields.specs.declared.SheetRefusal.{SheetRefusal}
use Rattle.sheet_frame.specs.declared.map.Map.{Map}
use Rattle.sheet_frame.specs.Map.{judged}

-- the map that the bits say, or why they are refused
abbrev pub Judges : ℕ → Result Map SheetRefusal → Type 0
Judges bits result = MatchResult result (λ m. judged bits ≡ give m) (λ e. judged bits ≡ refuse (sheet_number e))
