-- The size of ipma, from the runs of positions: where they are the definition's, as many bytes as the definition has.
use mathlib.Core.Path.{◌≡◌, ap, ◌∙◌}
use mathlib.Core.List.{List}
use lib.ListN.{length}
use Rattle.panel.specs.Panel.{Panel}
use Rattle.panel.specs.Form.{Form}
use Rattle.heif.specs.Items.{shape}
use Rattle.heif.specs.Ipco.{slots}
use Rattle.heif.specs.Ipma.{Association, positions, associations, ipma, ipma_size}
use Rattle.heif.proofs.Ipma.{length-ipma}
use Rattle.plan_runs.specs.Roles.{its_of}
use Rattle.plan_positions.specs.Placed.{Placed}
use Rattle.plan_runs.specs.declared.Places.{Places}

pub associated_alike : (p : Panel) (z : Places) → Placed p z → associations (shape p) (its_of z) ≡ associations (shape p) (positions 1 (slots p))
associated_alike p z f = ap (associations (shape p)) (λ i r. f.role r i)

pub ipma-by_runs : (f : Form) (p : Panel) (z : Places) → Placed p z → length (ipma f (associations (shape p) (its_of z))).body ≡ ipma_size f p
ipma-by_runs f p z placed = ap (λ (a : List Association). length (ipma f a).body) (associated_alike p z placed) ∙ length-ipma f p
