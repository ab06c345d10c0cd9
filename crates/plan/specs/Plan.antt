-- What the first checks and a plan say of a panel: why it is refused, or which items its file has, or all numbers of its file.
use Rattle.std.specs.Prelude.{◌≡◌, ◌≤◌, cond, length}
use Rattle.panel.specs.Panel.{Panel}
use Rattle.panel.specs.Form.{Form}
use Rattle.panel.specs.Outcome.{refused, number}
use Rattle.panel.specs.declared.Refusal.{Refusal}
use Rattle.panel.specs.declared.Shape.{Shape}
use Rattle.heif.specs.Items.{shape, Even}
use Rattle.heif.specs.File.{file}
use Rattle.heif.specs.Refusal.{too_long, refusal}
use Rattle.heif.specs.Answer.{length_answer}
use Rattle.heif.specs.Ipco.{Role}
use Rattle.plan_runs.specs.Roles.{its_of}
use Rattle.plan_positions.specs.Placed.{Placed}
use Rattle.plan_layout.specs.Laid.{Laid}
use Rattle.plan.specs.declared.FilePlan.{FilePlan}

-- the panel is refused, and this is why
abbrev pub Refused : Form → Panel → Refusal → Type 0
Refused f p r = refused (number r) ≡ length_answer f p

-- no check before 5 holds, so that 5 decides, and s is the shape
pub record Passes (f : Form) (p : Panel) (s : Shape) : Type 0 where
  pub items : s ≡ shape p
  pub even : Even p
  pub left : refusal f p ≡ cond (too_long (length (file f p))) 5 0

pub record MadeFrom (f : Form) (p : Panel) (m : FilePlan) : Type 0 where
  pub accepted : refusal f p ≡ 0
  pub long : m.length ≡ length (file f p)
  pub items : m.items ≡ shape p
  pub laid : Laid f p m.layout
  pub placed : Placed p m.places
  pub count : m.places.count ≤ 127
  pub few : (r : Role) → length (its_of m.places r) ≤ 2
