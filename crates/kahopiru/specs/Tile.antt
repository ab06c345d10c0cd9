-- What the tile lookup tells: the span of a tile, in the numbers that cross to C.
use Rattle.std.specs.Prelude.{cond, ℕ, Result, Ok, Err}
use Rattle.plan_tile.specs.declared.TileSpan.{TileSpan}
use Rattle.kahopiru.specs.declared.tile.TilePlace.{TilePlace}

abbrev pub tile_told : Result TileSpan ℕ → TilePlace
tile_told (Ok s) = record { refusal = 0; alpha = cond s.alpha 1 0; start = s.start; length = s.size }
tile_told (Err k) = record { refusal = k; alpha = 0; start = 0; length = 0 }
