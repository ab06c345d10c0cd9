-- The positions of the gain map's properties, and the next free one behind them.
use Rattle.std.specs.Prelude.{ℕ, ◌+◌}
use Rattle.plan_runs.specs.Runs.{run_at}
use Rattle.plan_runs.specs.declared.gain_map.ImagePlaces.{ImagePlaces}
use Rattle.plan_runs.specs.declared.gain_map.TonePlaces.{TonePlaces}

-- ---- hvcC, ispe, pixi, auxC and colr of the gain image, k boxes of each from n on

abbrev pub image_at : ℕ → ℕ → ImagePlaces
image_at n k =
    record { hvcc = run_at n k; ispe = run_at (n + k) k; pixi = run_at (n + k + k) k; auxc = run_at (n + k + k + k) k; colr = run_at (n + k + k + k + k) k }

abbrev pub behind_image : ℕ → ℕ → ℕ
behind_image n k = n + k + k + k + k + k

-- ---- ispe and pixi of the tone map, k boxes of each from n on, and so many alternate colr

abbrev pub tone_at : ℕ → ℕ → ℕ → TonePlaces
tone_at n k alternates = record { ispe = run_at n k; pixi = run_at (n + k) k; colr = run_at (n + k + k) alternates }

abbrev pub behind_tone : ℕ → ℕ → ℕ → ℕ
behind_tone n k alternates = n + k + k + alternates
