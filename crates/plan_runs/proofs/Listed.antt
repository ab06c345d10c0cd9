-- Lists of runs: the associations of a list, run by run, and how many they are.
use mathlib.Core.Path.{◌≡◌, refl, sym, ap, ◌∙◌}
use mathlib.Core.Bool.{Bool, true, false}
use mathlib.Core.List.{List, [], ◌∷◌, flat_map}
use Prim.Native.Nat.{ℕ, suc, ◌+◌, ◌<◌, ◌≤◌}
use native.Mathlib.Numerals.{add-one}
use lib.ListN.{length, length-append, drop, get_or}
use lib.Seq.{drop-cons}
use Rattle.std.proofs.lemmas.List.{at_drop_all}
use Rattle.octets.specs.Numbers.{◌‖◌}
use Rattle.octets.proofs.Lists.{flat_map_one}
use Rattle.plan_runs.specs.Runs.{Span, places}
use Rattle.plan_runs.specs.Lists.{marked, associated, listed}
use Rattle.plan_runs.specs.declared.lists.Associated.{Associated}
use Rattle.plan_runs.proofs.Runs.{length-places, length-essential}

-- a last run, and one that others follow
pub listed_one : (a : Associated) → listed (a ∷ []) ≡ associated a
listed_one a = flat_map_one associated a

pub listed_more : (a b : Associated) (l : List Associated) → listed (a ∷ b ∷ l) ≡ associated a ‖ listed (b ∷ l)
unfolding flat_map
listed_more a b l = refl

length-marked : (e : Bool) (r : Span) → length (marked e (places r)) ≡ r.count
length-marked true r = length-essential r
length-marked false r = length-places r

pub length-associated : (a : Associated) → length (associated a) ≡ a.run.count
length-associated a = length-marked a.essential a.run

-- behind the last run nothing is left
pub listed_end : (l : List Associated) {i : ℕ} → length l ≤ i → listed (drop i l) ≡ []
unfolding flat_map
listed_end l {i} h = at_drop_all (flat_map associated) l i h

module _ (l : List Associated) {i : ℕ} {a : Associated} (h : i < length l) (e : a ≡ get_or l i a) where
  -- before a run, that run and those behind it are left
  pub listed-drop : listed (drop i l) ≡ associated a ‖ listed (drop (i + 1) l)
  unfolding flat_map
  listed-drop = rw (add-one, drop-cons l i a) (ap (λ (x : Associated). associated x ‖ listed (drop (suc i) l)) (sym e))

  -- and how many
  pub length-listed-drop : length (listed (drop i l)) ≡ a.run.count + length (listed (drop (i + 1) l))
  length-listed-drop = ap length listed-drop ∙ length-append (associated a) (listed (drop (i + 1) l)) ∙ ap (λ (n : ℕ). n + length (listed (drop (i + 1) l))) (length-associated a)
