-- Demand 3: two accepted panels have the same file exactly when they agree.
use mathlib.Core.Path.{◌≡◌, refl, sym, ap, ◌∙◌}
use mathlib.Core.Logic.{◌↔◌}
use mathlib.Core.List.{List, [], ◌∷◌, flatten, flat_map}
use Prim.Native.Nat.{ℕ, ◌+◌, ◌*◌, ◌-◌, ◌/◌, ◌%◌, ◌^◌, ◌<◌}
use native.Mathlib.Omega.{arith}
use lib.ListN.{length, get_or, drop}
use Rattle.octets.specs.Numbers.{◌‖◌, be}
use Rattle.octets.specs.Boxes.{Box, boxes}
use Rattle.octets.proofs.Lists.{cancel}
use Rattle.octets.proofs.Numbers.{be_inj, skip_be}
use Rattle.octets.proofs.Boxes.{body_at, length-body_at, boxes_inj}
use Rattle.panel.specs.Panel.{Panel}
use Rattle.panel.specs.Agreement.{norm, Agree}
use Rattle.panel.specs.Widths.{Fits}
use Rattle.panel.specs.Form.{Form}
use Rattle.heif.specs.Items.{shape, colour_grid}
use Rattle.heif.specs.Mdat.{payloads, mdat}
use Rattle.heif.specs.Idat.{descriptor, idat}
use Rattle.heif.specs.Iloc.{locations, entry}
use Rattle.heif.specs.Ipco.{slots, ipco, properties}
use Rattle.heif.specs.Ipma.{positions, associations, ipma}
use Rattle.heif.specs.Ftyp.{head}
use Rattle.heif.specs.Grpl.{grpl}
use Rattle.heif.specs.Meta.{meta_boxes, meta}
use Rattle.heif.specs.File.{data_at, file}
use Rattle.heif.specs.Refusal.{refusal}
use Rattle.heif.proofs.Mdat.{cut_inj, exif_inj}
use Rattle.heif.proofs.Refusal.{Accepted, accepted}
use Rattle.heif_unique.proofs.Properties.{same-fields, gain-length, gain_inj}
use Rattle.heif_unique.proofs.Payloads.{SamePayloads, same-payloads}
use Rattle.heif_unique.proofs.Norm.{file-norm}

-- ---- parts that may be absent

-- the last box of a list, or d
last-box : Box → List Box → Box
last-box d [] = d
last-box d (b ∷ l) = last-box b l

last-append : (d : Box) (l : List Box) (b : Box) → last-box d (l ‖ b ∷ []) ≡ b
unfolding last-box
last-append d [] b = refl
last-append d (c ∷ l) b = last-append c l b

-- ---- every list of boxes in an accepted file has fewer than 2³² bytes

module _ (f : Form) where
  abbrev meta_list : Panel → List Box
  meta_list p = meta_boxes f (locations (data_at f p) p) p

  abbrev top : Panel → List Box
  top p = head p ∷ meta f (locations (data_at f p) p) p ∷ mdat p ∷ []

  abbrev property_list : Panel → List Box
  property_list p = ipco p ∷ ipma f (associations (shape p) (positions 1 (slots p))) ∷ []

  meta-short : (p : Panel) → Accepted f p → length (boxes (meta_list p)) < 2 ^ 32
  unfolding body_at file
  meta-short p a = omega (arith, length-body_at 1 (top p), a.size)

  data_short : (p : Panel) → Accepted f p → length (flatten (payloads p)) < 2 ^ 32
  unfolding body_at file
  data_short p a = omega (arith, length-body_at 2 (top p), a.size)

  iprp-short : (p : Panel) → Accepted f p → length (boxes (property_list p)) < 2 ^ 32
  unfolding body_at
  iprp-short p a = omega (arith, length-body_at 5 (meta_list p), meta-short p a)

  properties-short : (p : Panel) → Accepted f p → length (boxes (properties p)) < 2 ^ 32
  unfolding body_at
  properties-short p a = omega (arith, length-body_at 0 (property_list p), iprp-short p a)

  -- ---- from the file to its boxes, and from these to the panel

  module _ (p q : Panel) (a : Accepted f p) (b : Accepted f q) where
    top-eq : file f p ≡ file f q → (meta_list p ≡ meta_list q) × (flatten (payloads p) ≡ flatten (payloads q))
    unfolding body_at file
    top-eq e =
        let t = boxes_inj (top p) (top q) a.size e in
        let m = cancel (be 4 0) (be 4 0) refl (ap (body_at 1) t) in
        (boxes_inj (meta_list p) (meta_list q) (meta-short p a) m.1, ap (body_at 2) t)

    properties-eq : meta_list p ≡ meta_list q → properties p ≡ properties q
    unfolding body_at
    properties-eq e =
        let i = boxes_inj (property_list p) (property_list q) (iprp-short p a) (ap (body_at 5) e) in
        boxes_inj (properties p) (properties q) (properties-short p a) (ap (body_at 0) i)

    -- the primary item's id is the count of tiles and one
    count-eq : meta_list p ≡ meta_list q → (shape p).tiles ≡ (shape q).tiles
    unfolding body_at
    count-eq e =
        let m = cancel (be 1 f.step ‖ be 3 0) (be 1 f.step ‖ be 3 0) refl (ap (body_at 1) e) in
        let n = be_inj f.id {n = colour_grid (shape p)} {m = colour_grid (shape q)} (omega (arith, a.last)) (omega (arith, b.last)) m.1 in
        omega (arith, n)

    entries_eq : meta_list p ≡ meta_list q → flat_map (entry f) (locations (data_at f p) p) ≡ flat_map (entry f) (locations (data_at f q) q)
    unfolding body_at
    entries_eq e =
        let before = be 1 (1 + f.step) ‖ be 3 0 ‖ be 1 0x44 ‖ be 1 0x00 in
        skip_be f.count (length (locations (data_at f p) p)) (length (locations (data_at f q) q)) (cancel before before refl (ap (body_at 2) e)).1

    idat-eq : meta_list p ≡ meta_list q → descriptor p.dims ‖ descriptor p.dims ≡ descriptor q.dims ‖ descriptor q.dims
    unfolding last-box
    idat-eq e =
        let l = grpl (shape p) in
        let m = grpl (shape q) in
        ap (λ (c : Box). c.body) (sym (last-append _ l (idat p.dims)) ∙ ap (λ (x : List Box). last-box (idat p.dims) (drop 6 x)) e ∙ last-append _ m (idat q.dims))

    sides-eq : descriptor p.dims ‖ descriptor p.dims ≡ descriptor q.dims ‖ descriptor q.dims → (p.dims.rows ≡ q.dims.rows) × (p.dims.cols ≡ q.dims.cols)
    sides-eq e =
        let r : (p.dims.rows - 1) / 2 ^ (8 * 0) % 256 ≡ (q.dims.rows - 1) / 2 ^ (8 * 0) % 256 = ap (λ (l : List ℕ). get_or l 2 0) e in
        let c : (p.dims.cols - 1) / 2 ^ (8 * 0) % 256 ≡ (q.dims.cols - 1) / 2 ^ (8 * 0) % 256 = ap (λ (l : List ℕ). get_or l 3 0) e in
        (omega (arith, a.rows, a.rows_most, b.rows, b.rows_most), omega (arith, a.cols, a.cols_most, b.cols, b.cols_most))

    same_data : file f p ≡ file f q → SamePayloads p q
    same_data e =
        let t = top-eq e in
        same-payloads p q (a.alpha_count ∙ sym a.count) (b.alpha_count ∙ sym b.count) (count-eq t.0) f (data_at f p) (data_at f q)
        (data_short p a) (data_short q b) (entries_eq t.0) t.1

    -- equal files are of panels that agree
    pub only : Fits p → Fits q → file f p ≡ file f q → Agree p q
    unfolding norm
    only fp fq e =
        let t = top-eq e in
        let k = same-fields p q fp fq (properties-eq t.0) in
        let s = sides-eq (idat-eq t.0) in
        let d = same_data e in
        let c = cut_inj p.tiles q.tiles a.sum b.sum d.tiles in
        let l = cut_inj p.alpha q.alpha a.alpha_sum b.alpha_sum d.alpha in
        let o = exif_inj p.metadata.exif q.metadata.exif (gain-length _ _ _ _ p.gain q.gain k.gain) d.others in
        let g = gain_inj _ _ _ _ p.gain q.gain fp.gain fq.gain k.gain o.1 in
        record {
          same = λ i. record {
            dims = record { cols = s.1 i; rows = s.0 i; tile_w = k.tile.0 i; tile_h = k.tile.1 i; full_w = k.whole.0 i; full_h = k.whole.1 i };
            visible = k.visible i;
            depth = k.depth i;
            alpha_depth = k.alpha_depth i;
            tiles = record { hvcc = k.hvcc i; lengths = c.lengths i; bytes = c.bytes i };
            alpha = record { hvcc = k.alpha_hvcc i; lengths = l.lengths i; bytes = l.bytes i };
            colour = k.colour i;
            metadata = record { orientation = k.orientation i; light = k.light i; exif = o.0 i };
            gain = g i;
          };
        }

-- panels that agree have the same file, accepted or not
agreeing : (f : Form) (p q : Panel) → Agree p q → file f p ≡ file f q
agreeing f p q h = file-norm f p ∙ ap (file f) h.same ∙ sym (file-norm f q)

-- demand 3, in every form
pub same_files : (f : Form) (p q : Panel) → Fits p → Fits q → refusal f p ≡ 0 → refusal f q ≡ 0 → (file f p ≡ file f q) ↔ Agree p q
same_files f p q fp fq a b = (only f p q (accepted f p a) (accepted f q b) fp fq, agreeing f p q)
