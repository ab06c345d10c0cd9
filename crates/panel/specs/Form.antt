-- The forms of a file: what a form is, the ones that a caller can name, and what the code asks of one.
use Rattle.std.specs.Prelude.{◌≡◌, Bool, cond, ℕ}
use Rattle.panel.specs.declared.FileForm.{FileForm}
use Rattle.panel.specs.declared.FileForm.TheVariants.{Ordinary, Wide}

-- a form of the file: how many bytes an item's id takes, and a count of items; and how far the versions of the boxes that hold them are
-- raised by it. Each of these boxes says what the standard gives for its versions
pub record Form : Type 0 where
  pub id : ℕ
  pub count : ℕ
  pub step : ℕ

abbrev pub ordinary : Form
ordinary = record { id = 2; count = 2; step = 0 }

-- for more items than 16 bits can number
abbrev pub wide : Form
wide = record { id = 4; count = 4; step = 1 }

unfoldable pub form_of : FileForm → Form
form_of Ordinary = ordinary
form_of Wide = wide

-- if wide, ids and counts of items take 32 bits, and the versions of the boxes that hold them are one up; else they take 16 bits
pub record FormWidths (wide : Bool) (f : Form) : Type 0 where
  pub id : f.id ≡ cond wide 4 2
  pub count : f.count ≡ cond wide 4 2
  pub step : f.step ≡ cond wide 1 0
