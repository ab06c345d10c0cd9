-- The positions of a panel's properties: those of the definition.
use Rattle.std.specs.Prelude.{◌≡◌, length}
use Rattle.panel.specs.Panel.{Panel}
use Rattle.heif.specs.Ipco.{Role, slots, properties}
use Rattle.heif.specs.Ipma.{positions}
use Rattle.plan_runs.specs.Roles.{its_of}
use Rattle.plan_runs.specs.declared.Places.{Places}

-- each role has the definition's positions, and there are as many properties
pub record Placed (p : Panel) (y : Places) : Type 0 where
  pub count : y.count ≡ length (properties p)
  pub role : (r : Role) → its_of y r ≡ positions 1 (slots p) r
