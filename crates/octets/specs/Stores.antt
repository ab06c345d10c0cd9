-- What a function that writes does to the output lent to it.
use Rattle.std.specs.Prelude.{◌≡◌, List, ℕ, ◌+◌, ◌≤◌, length}
use Rattle.std.proofs.lemmas.List.Edits.{sets}
use Rattle.octets.specs.Boxes.{Box, boxes}
use Rattle.octets.specs.declared.Output.{Output}

-- room for n bytes more
abbrev pub Room : Output → ℕ → Type 0
Room o n = o.at + n ≤ length o.bytes.now

-- the list l with xs stored from i on
unfoldable pub lay : List ℕ → ℕ → List ℕ → List ℕ
lay l i xs = sets l i xs

-- a write: of the bytes of old, the n from its position on are now xs, which gives those of new, and its position is the one behind them
pub record Wrote (old : Output) (n : ℕ) (xs : List ℕ) (new : Output) : Type 0 where
  pub bytes : new.bytes.now ≡ lay old.bytes.now old.at xs
  pub size : length xs ≡ n
  pub end : new.at ≡ old.at + n
  pub kept : length new.bytes.now ≡ length old.bytes.now
  pub same : new.bytes.ghost_name ≡ old.bytes.ghost_name

-- a write of boxes
pub record Boxed (old : Output) (n : ℕ) (l : List Box) (new : Output) : Type 0 where
  pub wrote : Wrote old n (boxes l) new
