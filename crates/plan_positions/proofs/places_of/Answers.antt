-- Runs laid one behind the other from the first position on.
use Rattle.std.specs.Prelude.{option_map}
use native.Mathlib.Omega.{arith}
use Rattle.panel.specs.Of.{colour_of, metadata_of, gain_of, panel_of}
use Rattle.plan_positions.proofs.Roles.{few_optional, few_gain, few_placed, placed_in_turn}
use Rattle.plan_positions.proofs.places_of.Goals as goal

pub place_gain-image-requires : goal.place_gain-image-requires
place_gain-image-requires c =
    let p = c.args.panel.now in
    let next = c.optional_places-options.result.1.next.0 in
    omega (arith, few_gain next (option_map gain_of p.gain_map), few_optional c.alpha_places-alpha.result.1.next.0 (colour_of p.color_meta) (metadata_of p.metadata) p.visible)

pub returns-clause-placed : goal.returns-clause-placed
unfolding panel_of
returns-clause-placed c =
    let color = c.color_places-color.ensures in
    let alpha = c.alpha_places-alpha.ensures in
    let options = c.optional_places-options.ensures in
    let gain = c.place_gain-image.ensures in
    placed_in_turn (panel_of c.args.panel.now) color.places (omega arith) alpha.places (omega arith) options.places options.next gain.places gain.next

pub returns-clause-few : goal.returns-clause-few
unfolding panel_of
returns-clause-few c = few_placed (panel_of c.args.panel.now) (returns-clause-placed c)
