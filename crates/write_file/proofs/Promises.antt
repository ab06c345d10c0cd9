-- From the plan to the promise of the writing call: the three ways that it takes.
use mathlib.Core.Path.{◌≡◌, refl, sym, ap, ◌∙◌}
use mathlib.Core.Bool.{Bool, true, false}
use mathlib.Core.List.{List, [], ◌∷◌, ◌++◌}
use Prim.Native.Nat.{ℕ, zero, suc, ◌≤◌, ◌<◌}
use native.Mathlib.Omega.{arith}
use lib.Dec.{ltb}
use lib.ListN.{length, drop}
use borrow.Author.Tests.{lt-ltb, le-ltb}
use Rattle.panel.specs.Panel.{Panel}
use Rattle.panel.specs.Form.{Form}
use Rattle.panel.specs.Outcome.{Outcome, made, refused, number, says, outcome}
use Rattle.panel.specs.declared.Refusal.{Refusal}
use Rattle.panel.specs.declared.Refusal.TheVariants.{GridSide, VisibleSize, Cover, TileCount, SampleLengths, ItemIds, FileLength, OutputLength}
use Rattle.std.specs.Prelude.{Ok, Err}
use Rattle.heif.specs.File.{file}
use Rattle.heif.specs.Refusal.{Check, check, first, checks, refusal, refusal_in}
use Rattle.heif.specs.Answer.{length_answer, write_answer, left, after, Promised}
use Rattle.plan.specs.Plan.{MadeFrom}
use Rattle.plan.specs.declared.FilePlan.{FilePlan}

-- ---- a list of checks, and one more behind it

-- a refusal stands, whatever is checked after it
stands : (l m : List Check) (k : ℕ) → first l ≡ suc k → first (l ++ m) ≡ suc k
stands [] m k e = absurd (omega (arith, e))
stands (c ∷ l) m k e = go (c.holds tt) (stands l m k) e
  where
    go : (b : Bool) → (first l ≡ suc k → first (l ++ m) ≡ suc k) → elim b [ true ↦ c.number | false ↦ first l ] ≡ suc k → elim b [ true ↦ c.number | false ↦ first (l ++ m) ] ≡ suc k
    go true f h = h
    go false f h = f h

abbrev Numbered : List Check → Type 0
Numbered [] = Unit {0}
Numbered (c ∷ l) = (1 ≤ c.number) × Numbered l

-- where nothing is refused, what is checked after it decides
goes_on : (l m : List Check) → Numbered l → first l ≡ 0 → first (l ++ m) ≡ first m
goes_on [] m u e = refl
goes_on (c ∷ l) m u e = go (c.holds tt) (goes_on l m u.1) e
  where
    go : (b : Bool) → (first l ≡ 0 → first (l ++ m) ≡ first m) → ◌≡◌ {A = ℕ} (elim b [ true ↦ c.number | false ↦ first l ]) 0 → elim b [ true ↦ c.number | false ↦ first (l ++ m) ] ≡ first m
    go true f h = absurd (omega (arith, h, u.0))
    go false f h = f h

-- ---- what an outcome says

refused-suc : (r n k : ℕ) → refused (suc k) ≡ outcome r n → r ≡ suc k
refused-suc zero n k e = absurd (let z : ◌≡◌ {A = ℕ} 0 1 = cc in omega arith)
refused-suc (suc r) n k e = cc

module _ (w : Form) (p : Panel) where
  abbrev long : ℕ
  long = length (file w p)

  abbrev room_check : ℕ → List Check
  room_check room = check 6 (λ _. ltb room long) ∷ []

  numbered : Numbered (checks w long p)
  numbered = (omega arith, (omega arith, (omega arith, (omega arith, (omega arith, (omega arith, (omega arith, tt)))))))

  one_more : (room : ℕ) → refusal w p ≡ 0 → refusal_in w room p ≡ first (room_check room)
  unfolding refusal refusal_in
  one_more room e = goes_on (checks w long p) (room_check room) numbered e

  in_room : (room : ℕ) → refusal w p ≡ 0 → long ≤ room → refusal_in w room p ≡ 0
  in_room room e h = one_more room e ∙ ap (λ (b : Bool). elim b [ true ↦ 6 | false ↦ 0 ]) (le-ltb room long h)

  no_room : (room : ℕ) → refusal w p ≡ 0 → room < long → refusal_in w room p ≡ 6
  no_room room e h = one_more room e ∙ ap (λ (b : Bool). elim b [ true ↦ 6 | false ↦ 0 ]) (lt-ltb room long h)

  still : (room k : ℕ) → refusal w p ≡ suc k → refusal_in w room p ≡ suc k
  unfolding refusal refusal_in
  still room k e = stands (checks w long p) (room_check room) k e

  answers : (old : List ℕ) {k : ℕ} → refusal_in w (length old) p ≡ k → outcome k long ≡ write_answer w p (length old)
  unfolding write_answer
  answers old e = ap (λ (r : ℕ). outcome r long) (sym e)

  -- from the answer to the output
  promise : (old : List ℕ) (o : Outcome) {new : List ℕ} → o ≡ write_answer w p (length old) → new ≡ left o (file w p) old → Promised w p old o new
  unfolding after
  promise old o e h = record { answer = e; output = h ∙ ap (λ (x : Outcome). left x (file w p) old) e }

  by_number : (old : List ℕ) (k : ℕ) → refused (suc k) ≡ length_answer w p → Promised w p old (refused (suc k)) old
  unfolding length_answer
  by_number old k e = promise old (refused (suc k)) (answers old (still (length old) k (refused-suc (refusal w p) long k e))) refl

  pub by-refusal : (old : List ℕ) (r : Refusal) → refused (number r) ≡ length_answer w p → Promised w p old (says (Err r)) old
  by-refusal old GridSide e = by_number old 0 e
  by-refusal old VisibleSize e = by_number old 21 e
  by-refusal old Cover e = by_number old 7 e
  by-refusal old TileCount e = by_number old 1 e
  by-refusal old SampleLengths e = by_number old 2 e
  by-refusal old ItemIds e = by_number old 3 e
  by-refusal old FileLength e = by_number old 4 e
  by-refusal old OutputLength e = by_number old 5 e

  -- the plan is made
  module _ {f : FilePlan} (m : MadeFrom w p f) where
    pub by-room : (old : List ℕ) → length old < f.length → Promised w p old (says (Err OutputLength)) old
    by-room old h = promise old (refused 6) (answers old (no_room (length old) m.accepted (omega (arith, m.long, h)))) refl

    pub by_writing : {old new : List ℕ} → f.length ≤ length old → new ≡ file w p ++ drop long old → Promised w p old (says (Ok f.length)) new
    by_writing {old} h e = promise old (made f.length) (ap made m.long ∙ answers old (in_room (length old) m.accepted (omega (arith, m.long, h)))) e
