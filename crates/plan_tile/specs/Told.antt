-- What the code's tiles and answers stand for.
use Rattle.std.specs.Prelude.{ℕ, Result, Ok, Err}
use Rattle.panel.specs.declared.Samples.{Samples}
use Rattle.plan_tile.specs.Lookup.{LentTiles, lent_tiles}
use Rattle.plan_tile.specs.declared.TileSpan.{TileSpan}
use Rattle.plan_tile.specs.declared.TileRefusal.{TileRefusal}
use Rattle.plan_tile.specs.declared.TileRefusal.TheVariants.{TileCount, SampleLengths, ItemIds, NoTile}

abbrev pub lent : Samples → Samples → LentTiles
lent color alpha = lent_tiles color.lengths.now alpha.lengths.now color.bytes.now alpha.bytes.now

abbrev pub number : TileRefusal → ℕ
number TileCount = 2
number SampleLengths = 3
number ItemIds = 4
number NoTile = 7

-- the number of a refusal, or 0
abbrev pub refusal_of : Result TileSpan TileRefusal → ℕ
refusal_of (Ok s) = 0
refusal_of (Err e) = number e

-- the span, or the number of the refusal
abbrev pub span_told : Result TileSpan TileRefusal → Result TileSpan ℕ
span_told (Ok s) = Ok s
span_told (Err e) = Err (number e)
