-- What the plan of an accepted panel's file gives to the writer of meta.
use mathlib.Core.Path.{◌≡◌, refl, sym, ap, subst, ◌∙◌}
use mathlib.Core.List.{[], ◌∷◌}
use Prim.Native.Nat.{◌+◌, ◌≤◌}
use native.Mathlib.Omega.{arith}
use Rattle.std.specs.Prelude.{true, is_some, Option, None, Some}
use Rattle.octets.specs.Numbers.{◌‖◌}
use Rattle.octets.specs.Boxes.{box, full, boxes}
use Rattle.panel.specs.Panel.{Gain, Panel}
use Rattle.panel.specs.Form.{Form}
use Rattle.panel.specs.Parts.{tone_of}
use Rattle.panel.specs.declared.Shape.{Shape}
use Rattle.heif.specs.Items.{shape, Even}
use Rattle.heif.specs.Hdlr.{hdlr}
use Rattle.heif.specs.Pitm.{pitm}
use Rattle.heif.specs.Iloc.{locations, iloc}
use Rattle.heif.specs.Iinf.{iinf}
use Rattle.heif.specs.Iref.{iref}
use Rattle.heif.specs.Ipco.{ipco}
use Rattle.heif.specs.Ipma.{ipma}
use Rattle.heif.specs.Grpl.{grpl}
use Rattle.heif.specs.Idat.{idat}
use Rattle.heif.specs.Mdat.{gain_data_size}
use Rattle.heif.specs.Meta.{meta, meta_size}
use Rattle.heif.specs.File.{data_at, size}
use Rattle.heif.proofs.Items.{toned}
use Rattle.heif.proofs.Refusal.{Accepted, accepted, even-accepted}
use Rattle.heif.proofs.Iloc.{length-iloc}
use Rattle.heif.proofs.Iinf.{length-iinf}
use Rattle.heif.proofs.Iref.{length-iref}
use Rattle.heif.proofs.Ipco.{length-ipco}
use Rattle.heif.proofs.Ipma.{length-ipma}
use Rattle.heif.proofs.Iprp.{length-iprp}
use Rattle.heif.proofs.Idat.{length-idat}
use Rattle.heif.proofs.Meta.{length-meta}
use Rattle.heif.proofs.File.{data_at-size, length-file}
use Rattle.plan_items.specs.Payloads.{payload_lengths}
use Rattle.plan_layout.specs.Laid.{Laid}
use Rattle.plan_positions.proofs.Sizes.{associated_alike, ipma-by_runs}
use Rattle.plan.specs.Plan.{MadeFrom}
use Rattle.plan.specs.declared.FilePlan.{FilePlan}
use Rattle.write_iloc.specs.Locations.{placed}
use Rattle.write_meta.specs.Sections.{meta_of, meta_bytes, Sections}
use Rattle.write_file.proofs.Places.{placed-locations}

two_of : (g : Option Gain) → (payload_lengths g).sample + (payload_lengths g).xmp ≤ gain_data_size g
two_of None = omega arith
two_of (Some g) = omega arith

module _ (f : Form) (p : Panel) (m : FilePlan) (made : MadeFrom f p m) where
  good : Accepted f p
  good = accepted f p made.accepted

  pub even : Even p
  even = even-accepted f p good

  e : Laid f p m.layout
  e = made.laid

  at : placed m.items m.layout.payloads p.tiles.lengths p.alpha.lengths ≡ locations (data_at f p) p
  at = (λ i. placed (made.items i) (e.payloads i) p.tiles.lengths p.alpha.lengths) ∙ placed-locations p even (data_at f p)

  -- the definition's meta is what the writer makes of the plan
  pub its_meta : meta_of f p m.items m.places (placed m.items m.layout.payloads p.tiles.lengths p.alpha.lengths) ≡ meta f (locations (data_at f p) p) p
  its_meta =
      let s = shape p in
      let a = associated_alike p m.places made.placed in
      let l = locations (data_at f p) p in
      (λ i. meta_of f p (made.items i) m.places (at i))
      ∙ (λ i. full "meta" 0 0 (boxes (hdlr ∷ pitm f s ∷ iloc f l ∷ iinf f s ∷ iref f s ∷ box "iprp" (boxes (ipco p ∷ ipma f (a i) ∷ [])) ∷ grpl s ‖ idat p.dims ∷ [])))

  bytes_of_shape : meta_bytes f p (shape p) m.places ≡ 8 + meta_size f p
  bytes_of_shape = omega (arith, ipma-by_runs f p m.places made.placed)

  pub bytes : meta_bytes f p m.items m.places ≡ 8 + meta_size f p
  bytes = ap (λ (s : Shape). meta_bytes f p s m.places) made.items ∙ bytes_of_shape

  short : size f p ≤ 4294967295
  short = omega (arith, length-file f p even, good.size)

  sections_of_shape : Sections f p m.layout (shape p) m.places
  sections_of_shape =
      let payloads = e.payloads in
      let runs = ipma-by_runs f p m.places made.placed in
      record {
        meta = omega (arith, e.meta, length-meta f (data_at f p) p even, bytes_of_shape);
        iloc = omega (arith, e.iloc, length-iloc f (data_at f p) p even);
        iinf = omega (arith, e.iinf, length-iinf f (shape p));
        iref = omega (arith, e.iref, length-iref f (shape p));
        iprp = omega (arith, e.iprp, length-iprp f p, runs);
        ipco = omega (arith, e.ipco, length-ipco p);
        ipma = omega (arith, e.ipma, length-ipma f p, runs);
        idat = omega (arith, e.idat, length-idat p.dims);
        sided = record { rows = good.rows; rows_most = good.rows_most; cols = good.cols; cols_most = good.cols_most };
        counted = good.few;
        toned = toned p.gain;
        tiles = refl;
        alphas = even.counts;
        tiles_end = rw payloads (omega (arith, short, data_at-size f p even, even.sum));
        alphas_end = rw payloads (omega (arith, short, data_at-size f p even, even.alpha_sum));
        others_end = rw payloads (omega (arith, short, data_at-size f p even, two_of p.gain));
      }

  pub sections : Sections f p m.layout m.items m.places
  sections = subst (λ (s : Shape). Sections f p m.layout s m.places) (sym made.items) sections_of_shape
