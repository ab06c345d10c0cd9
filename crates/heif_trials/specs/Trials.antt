-- A trial: a form and a panel with some room, what the writing call answers, and what the file shows.
use Rattle.std.specs.Prelude.{Bool, true, false, ◌&&◌, List, [], ◌∷◌, ℕ, ◌-◌, eqb, length, take, drop, get_or}
use Prim.Native.String.{String}
use Rattle.octets.specs.Numbers.{◌‖◌, be, text}
use Rattle.octets.specs.Boxes.{Box, box, boxes, tag, kind}
use Rattle.panel.specs.Panel.{Panel}
use Rattle.panel.specs.Form.{Form, ordinary}
use Rattle.panel.specs.Outcome.{Outcome, made, refused}
use Rattle.heif.specs.Items.{shape}
use Rattle.heif.specs.Iloc.{Location, locations}
use Rattle.heif.specs.Iinf.{infes}
use Rattle.heif.specs.Ipco.{slots, properties}
use Rattle.heif.specs.Ipma.{Association, positions, associations}
use Rattle.heif.specs.File.{data_at, file}
use Rattle.heif.specs.Answer.{write_answer}

pub data Shown : Type 0 where
  -- a box by its type: its offset in the file and its size
  box_at : String → ℕ → ℕ → Shown
  -- bytes at an offset of the file
  bytes_at : ℕ → List ℕ → Shown
  -- an item's id and type
  item : ℕ → String → Shown
  -- an item's id, and what its extent of the file holds
  payload : ℕ → List ℕ → Shown
  -- a property's position, type and body
  property : ℕ → String → List ℕ → Shown
  -- an item's id and its associations
  associated : ℕ → List ℕ → Shown

pub record Trial : Type 0 where
  pub form : Form
  pub panel : Panel
  pub room : ℕ
  pub answer : Outcome
  pub shows : List Shown

-- in the ordinary form, with exactly enough room
abbrev pub fits : Panel → ℕ → List Shown → Trial
fits p n l = record { form = ordinary; panel = p; room = n; answer = made n; shows = l }

abbrev pub refuses : Panel → ℕ → ℕ → Trial
refuses p room k = record { form = ordinary; panel = p; room = room; answer = refused k; shows = [] }

infix 55 ◌in_form◌
-- the trial in another form
abbrev pub ◌in_form◌ : Trial → Form → Trial
t in_form f = record { form = f; panel = t.panel; room = t.room; answer = t.answer; shows = t.shows }

-- ---- tests

abbrev pub same : List ℕ → List ℕ → Bool
same [] [] = true
same [] (y ∷ t) = false
same (x ∷ s) [] = false
same (x ∷ s) (y ∷ t) = eqb x y && same s t

abbrev pub same_outcome : Outcome → Outcome → Bool
same_outcome (made m) (made n) = eqb m n
same_outcome (refused k) (refused l) = eqb k l
same_outcome (made m) (refused l) = false
same_outcome (refused k) (made n) = false

-- x stands at i of l
abbrev pub stands : List ℕ → ℕ → List ℕ → Bool
stands l i x = same (take (length x) (drop i l)) x

abbrev pub no_box : Box
no_box = box "" []

-- what the location of this id holds of a file
abbrev pub extent_of : ℕ → List ℕ → List Location → List ℕ
extent_of id bytes [] = []
extent_of id bytes (l ∷ r) = elim (eqb l.id id) [ true ↦ take l.extent.size (drop l.extent.offset bytes) | false ↦ extent_of id bytes r ]

abbrev pub properties_of : ℕ → List Association → List ℕ
properties_of id [] = []
properties_of id (a ∷ l) = elim (eqb a.id id) [ true ↦ a.properties | false ↦ properties_of id l ]

-- bytes is the panel's file in the form
abbrev pub shown : Form → Panel → List ℕ → Shown → Bool
shown f p bytes (box_at type offset size) = stands bytes offset (be 4 size ‖ tag (kind type))
shown f p bytes (bytes_at offset x) = stands bytes offset x
shown f p bytes (item id type) = stands (get_or (infes f (shape p)) (id - 1) no_box).body 4 (be f.id id ‖ be 2 0 ‖ text type)
shown f p bytes (payload id x) = same (extent_of id bytes (locations (data_at f p) p)) x
shown f p bytes (property position type body) = same (boxes (get_or (properties p) (position - 1) no_box ∷ [])) (boxes (box type body ∷ []))
shown f p bytes (associated id l) = same (properties_of id (associations (shape p) (positions 1 (slots p)))) l

abbrev pub all_shown : Form → Panel → List ℕ → List Shown → Bool
all_shown f p bytes [] = true
all_shown f p bytes (s ∷ l) = shown f p bytes s && all_shown f p bytes l

abbrev pub holds : Trial → Bool
holds t =
    let bytes = file t.form t.panel in
    same_outcome (write_answer t.form t.panel t.room) t.answer && all_shown t.form t.panel bytes t.shows

abbrev pub all_hold : List Trial → Bool
all_hold [] = true
all_hold (t ∷ l) = holds t && all_hold l
