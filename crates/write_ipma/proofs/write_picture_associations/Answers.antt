-- The tiles' entries and the grid's.
use Rattle.panel.specs.Form.{form_of}
use Rattle.plan_runs.specs.Lists.{listed}
use Rattle.write_ipma.proofs.Entries.{picture}
use Rattle.write_ipma.proofs.write_picture_associations.Goals as goal

pub returns : goal.returns
returns c =
    let ids = c.args.ids in
    picture (form_of c.args.form) ids.tiles.first.0 ids.tiles.count ids.grid.0 (listed c.args.tile.now) (listed c.args.grid.now) c.write_associations.ensures c.write_association.ensures
