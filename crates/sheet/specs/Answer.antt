-- What a sheet is answered, and what the output then holds: 11 to 15 as it is read, and then what the panel is answered.
use Rattle.std.specs.Prelude.{◌≡◌, List, ℕ, length}
use Rattle.panel.specs.Panel.{Panel}
use Rattle.panel.specs.Form.{ordinary}
use Rattle.panel.specs.Outcome.{Outcome, refused}
use Rattle.heif.specs.Answer.{write_answer, after}
use Rattle.sheet_fields.specs.Read.{Read, got, stop}
use Rattle.sheet.specs.Sheet.{sheet}

abbrev pub answer_of : Read Panel → ℕ → Outcome
answer_of (got p rest) room = write_answer ordinary p room
answer_of (stop k) room = refused k

abbrev pub after_of : Read Panel → List ℕ → List ℕ
after_of (got p rest) old = after ordinary p old
after_of (stop k) old = old

unfoldable pub sheet_answer : List ℕ → ℕ → Outcome
sheet_answer s room = answer_of (sheet s) room

unfoldable pub sheet_after : List ℕ → List ℕ → List ℕ
sheet_after s old = after_of (sheet s) old

-- of the sheet's call, at one sheet and one output
pub record SheetPromised (s old : List ℕ) (said : Outcome) (new : List ℕ) : Type 0 where
  pub answer : said ≡ sheet_answer s (length old)
  pub output : new ≡ sheet_after s old
