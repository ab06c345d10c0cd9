-- From a reading of the fields to what the sheet is answered.
use mathlib.Core.Path.{◌≡◌, refl, sym, ap, ◌∙◌}
use mathlib.Core.Bool.{cond}
use mathlib.Core.List.{List, []}
use Prim.Native.Nat.{ℕ, ◌≤◌, ◌<◌}
use lib.ListN.{length}
use borrow.Author.Tests.{lt-ltb, le-ltb}
use Rattle.panel.specs.Panel.{Panel}
use Rattle.panel.specs.Form.{ordinary}
use Rattle.panel.specs.Outcome.{Outcome, refused}
use Rattle.heif.specs.Answer.{Promised}
use Rattle.sheet_fields.specs.Read.{Read, got, stop}
use Rattle.sheet.specs.Sheet.{fields, sheet}
use Rattle.sheet.specs.Answer.{answer_of, after_of, sheet_answer, sheet_after, SheetPromised}

module _ (s : List ℕ) where
  promised_as : {old new : List ℕ} {said : Outcome} (r : Read Panel) → sheet s ≡ r → said ≡ answer_of r (length old) → new ≡ after_of r old → SheetPromised s old said new
  unfolding sheet_answer sheet_after
  promised_as {old} r e a o = record { answer = a ∙ ap (λ r. answer_of r (length old)) (sym e); output = o ∙ ap (λ r. after_of r old) (sym e) }

  pub too_long : {old : List ℕ} → 12288 < length s → SheetPromised s old (refused 15) old
  unfolding sheet
  too_long h = promised_as (stop 15) (ap (λ b. cond b (stop 15) (fields s)) (lt-ltb _ _ h)) refl refl

  short-sheet : length s ≤ 12288 → sheet s ≡ fields s
  unfolding sheet
  short-sheet h = ap (λ b. cond b (stop 15) (fields s)) (le-ltb _ _ h)

  module _ (short : length s ≤ 12288) where
    pub by_refusal : {old : List ℕ} {k : ℕ} → fields s ≡ stop k → SheetPromised s old (refused k) old
    by_refusal e = promised_as (stop _) (short-sheet short ∙ e) refl refl

    pub by_panel : {old new : List ℕ} {said : Outcome} {p : Panel} → fields s ≡ got p [] → Promised ordinary p old said new → SheetPromised s old said new
    by_panel e w = promised_as (got _ []) (short-sheet short ∙ e) w.answer w.output
