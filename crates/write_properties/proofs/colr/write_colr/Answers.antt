-- Code points, a profile, or unspecified full-range.
use Rattle.write_properties.proofs.colr.write_colr.Goals as goal

pub returns-in-Some-default : goal.returns-in-Some-default
returns-in-Some-default c = rw c.in-Some-default.is-0 c.write_colr_nclx.ensures

pub returns-in-None-None : goal.returns-in-None-None
returns-in-None-None c =
    let unspecified = rw c.unspecified.ensures at c.write_colr_nclx-in-None-None.ensures in
    rw (c.in-None-None.is-0, c.in-None-None.is-1) unspecified
