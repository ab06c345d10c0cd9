-- What a call answers: the file's length, or the number of a refusal.
use Rattle.std.specs.Prelude.{ℕ, zero, suc, Result, Ok, Err}
use Rattle.panel.specs.declared.Refusal.{Refusal}
use Rattle.panel.specs.declared.Refusal.TheVariants.{GridSide, VisibleSize, Cover, TileCount, SampleLengths, ItemIds, FileLength, OutputLength}

-- the file's length, or the number of a refusal
pub data Outcome : Type 0 where
  made : ℕ → Outcome
  refused : ℕ → Outcome

abbrev pub number : Refusal → ℕ
number GridSide = 1
number VisibleSize = 22
number Cover = 8
number TileCount = 2
number SampleLengths = 3
number ItemIds = 4
number FileLength = 5
number OutputLength = 6

-- what the code's answer says, where `numbered` gives the number of each error
abbrev pub says_by : {E : Type 0} → (E → ℕ) → Result ℕ E → Outcome
says_by numbered (Ok n) = made n
says_by numbered (Err e) = refused (numbered e)

abbrev pub says : Result ℕ Refusal → Outcome
says r = says_by number r

-- by the number of the refusal, where 0 is none
abbrev pub outcome : ℕ → ℕ → Outcome
outcome zero n = made n
outcome (suc k) n = refused (suc k)
