-- Programs that break a promise.
use Rattle.std.specs.Prelude.{cond, List, [], ◌∷◌, map, ℕ, ◌+◌, eqb, length}
use Rattle.octets.specs.Boxes.{boxes}
use Rattle.panel.specs.Panel.{Panel}
use Rattle.panel.specs.Form.{Form, ordinary}
use Rattle.panel.specs.Outcome.{Outcome, refused, outcome}
use Rattle.heif.specs.Iloc.{Location, locations}
use Rattle.heif.specs.Ftyp.{head}
use Rattle.heif.specs.Meta.{meta}
use Rattle.heif.specs.Mdat.{mdat}
use Rattle.heif.specs.File.{data_at, file}
use Rattle.heif.specs.Refusal.{refusal}
use Rattle.heif.specs.Answer.{write_answer, left, after, Result}
use Rattle.heif_trials.specs.Panels.{panel_p}

abbrev pub refuses_all : Panel → List ℕ → Result
refuses_all p old = record { answer = refused 1; output = old }

-- P's file, whatever the panel
abbrev pub emits_panel_p : Panel → List ℕ → Result
emits_panel_p p old = let a = write_answer ordinary p (length old) in record { answer = a; output = left a (file ordinary panel_p) old }

-- the right answer, and nothing written
abbrev pub writes_nothing : Panel → List ℕ → Result
writes_nothing p old = record { answer = write_answer ordinary p (length old); output = old }

-- the first tile's offset, and 0 for the others in mdat
abbrev pub no_offset : Location → Location
no_offset l = record { id = l.id; method = l.method; extent = record { offset = cond (eqb l.method 0) 0 l.extent.offset; size = l.extent.size } }

abbrev pub first_only : List Location → List Location
first_only [] = []
first_only (l ∷ r) = l ∷ map no_offset r

abbrev pub first_file : Panel → List ℕ
first_file p = boxes (head p ∷ meta ordinary (first_only (locations (data_at ordinary p) p)) p ∷ mdat p ∷ [])

abbrev pub first_offset : Panel → List ℕ → Result
first_offset p old = let a = write_answer ordinary p (length old) in record { answer = a; output = left a (first_file p) old }

-- the answer and the file of a form
abbrev pub writes_as : Form → Panel → List ℕ → Result
writes_as f p old = record { answer = write_answer f p (length old); output = after f p old }

-- a length one too large
abbrev pub invented : Panel → Outcome
invented p = outcome (refusal ordinary p) (1 + length (file ordinary p))
