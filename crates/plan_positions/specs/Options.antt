-- The positions of the properties that may be absent, as a panel has them.
use Rattle.std.specs.Prelude.{ℕ, ◌+◌, Option}
use Rattle.panel.specs.Panel.{Colour, Metadata}
use Rattle.panel.specs.declared.VisibleSize.{VisibleSize}
use Rattle.heif.specs.Colr.{second_colr_count}
use Rattle.heif.specs.Irot.{irot_count}
use Rattle.heif.specs.Imir.{imir_count}
use Rattle.heif.specs.Clli.{clli_count}
use Rattle.heif.specs.Clap.{clap_count}
use Rattle.plan_runs.specs.Pictures.{options_at}
use Rattle.plan_runs.specs.declared.pictures.OptionPlaces.{OptionPlaces}

-- what there is of the second colr, irot, imir, clli and clap, from n on
abbrev pub optional_at : ℕ → Colour → Metadata → Option VisibleSize → OptionPlaces
optional_at n c m visible =
    options_at n (second_colr_count c.cicp c.icc) (irot_count m.orientation) (imir_count m.orientation) (clli_count m.light) (clap_count visible)

-- the next free position behind them
abbrev pub behind_optional : ℕ → Colour → Metadata → Option VisibleSize → ℕ
behind_optional n c m visible =
    n + second_colr_count c.cicp c.icc + irot_count m.orientation + imir_count m.orientation + clli_count m.light + clap_count visible
