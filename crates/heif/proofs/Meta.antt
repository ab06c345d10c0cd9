-- The length of meta.
use mathlib.Core.Path.{◌≡◌}
use mathlib.Core.List.{[], ◌∷◌}
use Prim.Native.Nat.{ℕ}
use native.Mathlib.Omega.{arith}
use lib.ListN.{length}
use Rattle.octets.specs.Numbers.{◌‖◌}
use Rattle.octets.proofs.Boxes.{length-boxes-append, length-sizes}
use Rattle.panel.specs.Panel.{Panel}
use Rattle.panel.specs.Form.{Form}
use Rattle.heif.specs.Items.{shape, Even}
use Rattle.heif.specs.Iloc.{locations, iloc}
use Rattle.heif.specs.Iinf.{iinf}
use Rattle.heif.specs.Iref.{iref}
use Rattle.heif.specs.Hdlr.{hdlr}
use Rattle.heif.specs.Pitm.{pitm}
use Rattle.heif.specs.Iprp.{iprp}
use Rattle.heif.specs.Grpl.{grpl}
use Rattle.heif.specs.Idat.{idat}
use Rattle.heif.specs.Meta.{meta, meta_size}
use Rattle.heif.proofs.Iloc.{length-iloc}
use Rattle.heif.proofs.Iinf.{length-iinf}
use Rattle.heif.proofs.Iref.{length-iref}
use Rattle.heif.proofs.Pitm.{length-pitm}
use Rattle.heif.proofs.Iprp.{length-iprp}
use Rattle.heif.proofs.Grpl.{length-boxes-grpl}
use Rattle.heif.proofs.Idat.{length-idat}

-- wherever the data begin
pub length-meta : (f : Form) (at : ℕ) (p : Panel) → Even p → length (meta f (locations at p) p).body ≡ meta_size f p
length-meta f at p h =
    let s = shape p in
    let first = hdlr ∷ pitm f s ∷ iloc f (locations at p) ∷ iinf f s ∷ iref f s ∷ iprp f p ∷ [] in
    let group = grpl s in
    let last = idat p.dims ∷ [] in
    omega (
      arith,
      length-boxes-append first (group ‖ last),
      length-boxes-append group last,
      length-sizes first,
      length-sizes last,
      length-pitm f s,
      length-iloc f at p h,
      length-iinf f s,
      length-iref f s,
      length-iprp f p,
      length-boxes-grpl s,
      length-idat p.dims,
    )
