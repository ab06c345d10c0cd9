-- The positions of the properties of the colour picture and the alpha picture, and of those that may be absent.
use Rattle.std.specs.Prelude.{ℕ, ◌+◌}
use Rattle.plan_runs.specs.Runs.{run_at}
use Rattle.plan_runs.specs.declared.pictures.ColorPlaces.{ColorPlaces}
use Rattle.plan_runs.specs.declared.pictures.AlphaPlaces.{AlphaPlaces}
use Rattle.plan_runs.specs.declared.pictures.OptionPlaces.{OptionPlaces}

-- from n on, one box of each kind
abbrev pub colour_at : ℕ → ColorPlaces
colour_at n = record { hvcc = run_at n 1; ispe_tile = run_at (n + 1) 1; ispe_full = run_at (n + 2) 1; colr = run_at (n + 3) 1; pixi = run_at (n + 4) 1 }

abbrev pub alpha_at : ℕ → AlphaPlaces
alpha_at n = record { hvcc = run_at n 1; pixi = run_at (n + 1) 1; auxc = run_at (n + 2) 1 }

abbrev pub options_at : ℕ → ℕ → ℕ → ℕ → ℕ → ℕ → OptionPlaces
options_at n colr irot imir clli clap =
    record {
      colr = run_at n colr;
      irot = run_at (n + colr) irot;
      imir = run_at (n + colr + irot) imir;
      clli = run_at (n + colr + irot + imir) clli;
      clap = run_at (n + colr + irot + imir + clli) clap;
    }
