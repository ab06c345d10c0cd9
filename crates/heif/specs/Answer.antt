-- What each call answers, what the output holds afterwards, and what is promised of both.
use Rattle.std.specs.Prelude.{◌≡◌, List, ◌++◌, ℕ, length, drop}
use Rattle.panel.specs.Panel.{Panel}
use Rattle.panel.specs.Widths.{Fits}
use Rattle.panel.specs.Form.{Form}
use Rattle.panel.specs.Outcome.{Outcome, made, refused, outcome}
use Rattle.heif.specs.File.{file}
use Rattle.heif.specs.Refusal.{refusal, refusal_in}

unfoldable pub length_answer : Form → Panel → Outcome
length_answer f p = outcome (refusal f p) (length (file f p))

unfoldable pub write_answer : Form → Panel → ℕ → Outcome
write_answer f p room = outcome (refusal_in f room p) (length (file f p))

-- an output that held `old`: unchanged where the call refuses, else the file and then the old rest
abbrev pub left : Outcome → List ℕ → List ℕ → List ℕ
left (made n) new old = new ++ drop (length new) old
left (refused k) new old = old

unfoldable pub after : Form → Panel → List ℕ → List ℕ
after f p old = left (write_answer f p (length old)) (file f p) old

-- ---- promises

-- of the writing call, at one panel and one output
pub record Promised (f : Form) (p : Panel) (old : List ℕ) (said : Outcome) (new : List ℕ) : Type 0 where
  pub answer : said ≡ write_answer f p (length old)
  pub output : new ≡ after f p old

-- a pure function from a panel and an output to an answer and an output
pub record Result : Type 0 where
  pub answer : Outcome
  pub output : List ℕ

abbrev pub Promise : Form → (Panel → List ℕ → Result) → Type 0
Promise f write = (p : Panel) → Fits p → (old : List ℕ) → Promised f p old (write p old).answer (write p old).output

-- of the length call
abbrev pub LengthPromise : Form → (Panel → Outcome) → Type 0
LengthPromise f measure = (p : Panel) → Fits p → measure p ≡ length_answer f p
