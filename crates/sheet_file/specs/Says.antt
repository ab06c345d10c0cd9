-- What the answer of the sheet's call says.
use Rattle.std.specs.Prelude.{ℕ, Result}
use Rattle.panel.specs.Outcome.{Outcome, says_by}
use Rattle.sheet_fields.specs.Reads.{sheet_number}
use Rattle.sheet_fields.specs.declared.SheetRefusal.{SheetRefusal}

abbrev pub sheet_says : Result ℕ SheetRefusal → Outcome
sheet_says r = says_by sheet_number r
