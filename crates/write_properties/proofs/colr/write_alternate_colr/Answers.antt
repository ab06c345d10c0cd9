-- Code points or nothing, then a profile or nothing.
use mathlib.Core.Path.{refl}
use native.Mathlib.Omega.{arith}
use Rattle.octets.proofs.Stores.{retold, no_boxes, ◌▸◌}
use Rattle.write_properties.proofs.colr.write_alternate_colr.Goals as goal
use Rattle.write_properties.proofs.colr.write_alternate_colr.Goals.{in-Some-cicp, in_default-cicp}

pub returns-in-Some-icc : goal.returns-in-Some-icc
returns-in-Some-icc c =
    rw (c.in-Some.is, c.in-Some-icc.is)
    (elim c.match-color.branch [
      | in-Some-cicp w ↦ rw w.in-Some-cicp.is (rw (← w.out-is) at w.write_colr_nclx.ensures ▸ c.write_colr_icc.ensures)
      | in_default-cicp w ↦ rw w.in_default-cicp.is (retold (rw w.out-is at c.write_colr_icc.ensures) refl (omega arith))
    ])

pub returns-in_default-icc : goal.returns-in_default-icc
returns-in_default-icc c =
    rw (c.in-Some.is, c.in_default-icc.is)
    (elim c.match-color.branch [
      | in-Some-cicp w ↦ rw (w.in-Some-cicp.is, w.out-is) w.write_colr_nclx.ensures
      | in_default-cicp w ↦ rw (w.in_default-cicp.is, w.out-is) no_boxes
    ])

pub returns-in_default : goal.returns-in_default
returns-in_default c = rw c.in_default.is no_boxes
