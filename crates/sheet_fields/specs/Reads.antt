-- What a function of the code reads, and the numbers of refusals.
use Rattle.std.specs.Prelude.{◌≡◌, Bool, true, false, List, [], ℕ, ◌≤◌, length, Option, None, IsSomeAnd, Result, Ok, Err, MatchResult}
use Rattle.panel.specs.Outcome.{number}
use Rattle.sheet_fields.specs.Read.{Reader, got, stop}
use Rattle.sheet_fields.specs.declared.SheetReader.{SheetReader}
use Rattle.sheet_fields.specs.declared.SheetRefusal.{SheetRefusal}
use Rattle.sheet_fields.specs.declared.SheetRefusal.TheVariants.{Short, BadMap, Code, LeftOver, TooLong, Panel}

abbrev pub sheet_number : SheetRefusal → ℕ
sheet_number Short = 11
sheet_number BadMap = 12
sheet_number Code = 13
sheet_number LeftOver = 14
sheet_number TooLong = 15
sheet_number (Panel refusal) = number refusal

-- from old on the code reads what f says, and new is behind it, with no more bytes left; `said` gives the value that the code's stands for
abbrev pub Reads : {A B : Type 0} → Reader B → (A → B) → SheetReader → Result A SheetRefusal → SheetReader → Type 0
Reads f said old result new =
    MatchResult result
    (λ a. (f old.left.now ≡ got (said a) new.left.now) × (length new.left.now ≤ length old.left.now))
    (λ e. f old.left.now ≡ stop (sheet_number e))

-- if the bit stands, the code answers a value that `reads` gives, or its refusal; else it reads nothing
abbrev pub ReadsOptional : {A : Type 0} → Bool → (Result A SheetRefusal → SheetReader → Type 0) → SheetReader → Result (Option A) SheetRefusal → SheetReader → Type 0
ReadsOptional true reads old result new = MatchResult result (λ o. IsSomeAnd o (λ a. reads (Ok a) new)) (λ e. reads (Err e) new)
ReadsOptional false reads old result new = (result ≡ Ok None) × (new ≡ old)

-- of s the code reads what f says, and nothing is left
abbrev pub ReadsAll : {A B : Type 0} → Reader B → (A → B) → List ℕ → Result A SheetRefusal → Type 0
ReadsAll f said s result = MatchResult result (λ a. f s ≡ got (said a) []) (λ e. f s ≡ stop (sheet_number e))
