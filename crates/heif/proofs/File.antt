-- The length of the file; and iloc counts from where the data begin, since the length of meta does not depend on its offsets.
use mathlib.Core.Path.{◌≡◌, ap, ◌∙◌}
use mathlib.Core.List.{[], ◌∷◌, flatten}
use Prim.Native.Nat.{ℕ, ◌+◌}
use native.Mathlib.Omega.{arith}
use lib.ListN.{length, drop}
use Rattle.octets.specs.Boxes.{boxes}
use Rattle.octets.proofs.Boxes.{length-boxes-append, length-sizes, drop-boxes}
use Rattle.panel.specs.Panel.{Panel}
use Rattle.panel.specs.Form.{Form}
use Rattle.heif.specs.Mdat.{payloads, mdat}
use Rattle.heif.specs.Iloc.{locations}
use Rattle.heif.specs.Meta.{meta, meta_size}
use Rattle.heif.specs.Ftyp.{head, head_size}
use Rattle.heif.specs.File.{data_at, file, size}
use Rattle.heif.specs.Items.{Even}
use Rattle.heif.proofs.Ftyp.{length-head}
use Rattle.heif.proofs.Meta.{length-meta}
use Rattle.heif.proofs.Mdat.{length-mdat}

-- what stands before mdat, wherever the data begin
length_front : (f : Form) (at : ℕ) (p : Panel) → Even p → length (boxes (head p ∷ meta f (locations at p) p ∷ [])) ≡ (8 + head_size p) + (8 + meta_size f p)
length_front f at p h = omega (arith, length-sizes (head p ∷ meta f (locations at p) p ∷ []), length-head p, length-meta f at p h)

pub data_at-size : (f : Form) (p : Panel) → Even p → data_at f p ≡ (8 + head_size p) + (8 + meta_size f p) + 8
data_at-size f p h = omega (arith, length_front f 0 p h)

pub length-file : (f : Form) (p : Panel) → Even p → length (file f p) ≡ size f p
unfolding file
length-file f p h =
    let front = head p ∷ meta f (locations (data_at f p) p) p ∷ [] in
    omega (arith, length-boxes-append front (mdat p ∷ []), length_front f (data_at f p) p h, length-sizes (mdat p ∷ []), length-mdat p h)

-- the offset that iloc counts from is where the body of mdat begins, and that body is the rest of the file
pub data_begins : (f : Form) (p : Panel) → Even p → drop (data_at f p) (file f p) ≡ flatten (payloads p)
unfolding file
data_begins f p h =
    let front = head p ∷ meta f (locations (data_at f p) p) p ∷ [] in
    let same : data_at f p ≡ length (boxes front) + 8 = omega (arith, data_at-size f p h, length_front f (data_at f p) p h) in
    ap (λ (n : ℕ). drop n (file f p)) same ∙ drop-boxes front (mdat p)
