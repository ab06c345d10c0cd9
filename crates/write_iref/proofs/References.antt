-- A reference from its parts, and what is left of a list of ids.
use mathlib.Core.Path.{◌≡◌, refl, sym, ap, ◌∙◌}
use mathlib.Core.List.{List, [], ◌∷◌, ◌++◌, append_assoc, flat_map}
use Prim.Native.Nat.{ℕ, ◌+◌, ◌*◌, ◌<◌}
use native.Mathlib.Numerals.{add-one}
use native.Mathlib.Omega.{arith}
use lib.ListN.{length, length-append, drop, get_or}
use lib.Seq.{drop-cons}
use Rattle.octets.specs.Numbers.{◌‖◌, be}
use Rattle.octets.specs.Boxes.{box_of}
use Rattle.octets.specs.Stores.{Wrote, Boxed}
use Rattle.octets.specs.declared.Output.{Output}
use Rattle.octets.proofs.Boxes.{boxes_one, tag-kind_of}
use Rattle.octets.proofs.Numbers.{length-be}
use Rattle.octets.proofs.Stores.{◌▹◌, told}
use Rattle.panel.specs.Form.{Form}
use Rattle.panel.specs.declared.WideItemId.{WideItemId}
use Rattle.heif.specs.Iref.{reference_size}
use Rattle.write_iref.specs.References.{reference_of}

-- the head with a count of k, and k ids
pub referred : {l m o : Output} {k : ℕ} (f : Form) (kind : List ℕ) (from : ℕ) (to : List ℕ)
    → Wrote l (10 + f.id) (be 4 (reference_size f k) ‖ kind ‖ be f.id from ‖ be 2 k) m → Wrote m (f.id * k) (flat_map (be f.id) to) o
    → length kind ≡ 4 → k ≡ length to → Boxed l (reference_size f k) (reference_of f kind from to ∷ []) o
referred {k = k} f kind from to head rest four count =
    let id = be f.id from in
    let ids = flat_map (be f.id) to in
    let body = id ‖ be 2 (length to) ‖ ids in
    let size : reference_size f k ≡ 8 + length body = omega (arith, rest.size, length-append id (be 2 (length to) ‖ ids), length-be f.id from) in
    let type = tag-kind_of kind four in
    let parts = append_assoc kind (id ‖ be 2 k) ids ∙ ap (λ (r : List ℕ). kind ++ r) (append_assoc id (be 2 k) ids) in
    let bytes = ap (λ (r : List ℕ). be 4 (reference_size f k) ++ r) parts ∙ (λ i. be 4 (size i) ‖ sym type i ‖ id ‖ be 2 (count i) ‖ ids) in
    record { wrote = told (head ▹ rest) (bytes ∙ sym (boxes_one (box_of kind body))) refl }

-- before an id, that id and those behind it are left
pub left : (ids : List WideItemId) {i : ℕ} → i < length ids → drop i ids ≡ get_or ids i (record { 0 = 0 }) ∷ drop (i + 1) ids
left ids {i} h = rw add-one (drop-cons ids i (record { 0 = 0 }) h)
