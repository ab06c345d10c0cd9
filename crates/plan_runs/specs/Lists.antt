-- What a list of runs stands for in ipma, each run essential or not.
use Rattle.std.specs.Prelude.{Bool, cond, List, ℕ}
use mathlib.Core.List.{flat_map}
use Rattle.heif.specs.Ipma.{essential}
use Rattle.plan_runs.specs.Runs.{places}
use Rattle.plan_runs.specs.declared.lists.Associated.{Associated}

-- positions as ipma has them: the highest bit marks an essential association
abbrev pub marked : Bool → List ℕ → List ℕ
marked e l = cond e (essential l) l

-- the associations of a run
abbrev pub associated : Associated → List ℕ
associated a = marked a.essential (places a.run)

-- those of a list, run by run
abbrev pub listed : List Associated → List ℕ
listed l = flat_map associated l
