-- How many positions a run has, and a list of runs.
use mathlib.Core.Path.{◌≡◌, ◌∙◌}
use Prim.Native.Nat.{◌+◌}
use lib.ListN.{length, length-map}
use Rattle.heif.specs.Ipma.{essential}
use Rattle.heif.proofs.Items.{length-ids_from}
use Rattle.plan_runs.specs.Runs.{Span, places}

pub length-places : (r : Span) → length (places r) ≡ r.count
length-places r = length-ids_from r.first r.count

pub length-essential : (r : Span) → length (essential (places r)) ≡ r.count
length-essential r = length-map (places r) (λ k. 128 + k) ∙ length-places r
