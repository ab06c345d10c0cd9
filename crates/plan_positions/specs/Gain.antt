-- The gain map's positions, and how many boxes of each kind it has in a file.
use Rattle.std.specs.Prelude.{cond, ℕ, Option, None, Some, is_some}
use Rattle.panel.specs.Panel.{Gain}
use Rattle.panel.specs.Parts.{tone_of}
use Rattle.heif.specs.Colr.{alternates_count}
use Rattle.plan_runs.specs.GainMap.{image_at, behind_image, tone_at, behind_tone}
use Rattle.plan_positions.specs.declared.gain.GainPlaces.{GainPlaces}

-- one of each kind of the gain image's, where there is a gain map, and of the tone map's, where there is one
abbrev pub images : Option Gain → ℕ
images g = cond (is_some g) 1 0

abbrev pub tones : Option Gain → ℕ
tones g = cond (is_some (tone_of g)) 1 0

-- alternate colours belong to a tone map
abbrev pub toned_alternates : Option Gain → ℕ
toned_alternates None = 0
toned_alternates (Some g) = cond (is_some g.tone) (alternates_count g.alternate) 0

-- the gain image's positions from n on, and the tone map's behind them
abbrev pub gain_at : ℕ → Option Gain → GainPlaces
gain_at n g = record { image = image_at n (images g); tone = tone_at (behind_image n (images g)) (tones g) (toned_alternates g) }

-- the next free position behind both
abbrev pub behind_gain : ℕ → Option Gain → ℕ
behind_gain n g = behind_tone (behind_image n (images g)) (tones g) (toned_alternates g)
