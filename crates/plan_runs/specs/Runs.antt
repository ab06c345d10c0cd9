-- The property positions that a run of the code stands for.
use Rattle.std.specs.Prelude.{List, ℕ, ◌+◌, ◌≤◌}
use Rattle.heif.specs.Items.{ids_from}

-- a run: its first position, and how many there are
pub record Span : Type 0 where
  pub first : ℕ
  pub count : ℕ

-- one after the other
abbrev pub places : Span → List ℕ
places r = ids_from r.first r.count

-- each position leaves the highest of 8 bits free for a mark, as does the one behind them
abbrev pub Markable : Span → Type 0
Markable r = r.first + r.count ≤ 127

-- so many positions from `first` on
abbrev pub run_at : ℕ → ℕ → Span
run_at first count = record { first = first; count = count }
