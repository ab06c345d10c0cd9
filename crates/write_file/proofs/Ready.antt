-- What the plan of an accepted panel's file gives to the writers of its three boxes; and these boxes are the file.
use mathlib.Core.Path.{◌≡◌, sym, ◌∙◌}
use mathlib.Core.List.{[], ◌∷◌}
use Prim.Native.Nat.{◌+◌}
use native.Mathlib.Omega.{arith}
use lib.ListN.{length}
use Rattle.octets.specs.Boxes.{box, boxes}
use Rattle.panel.specs.Panel.{Panel}
use Rattle.panel.specs.Form.{Form}
use Rattle.heif.specs.Items.{Even}
use Rattle.heif.specs.Iloc.{locations}
use Rattle.heif.specs.Ftyp.{ftyp, head, ftyp_size}
use Rattle.heif.specs.Meta.{meta, meta_size}
use Rattle.heif.specs.Mdat.{mdat_size}
use Rattle.heif.specs.File.{data_at, file}
use Rattle.heif.proofs.Refusal.{accepted, even-accepted}
use Rattle.heif.proofs.Ftyp.{length-head}
use Rattle.heif.proofs.Mdat.{length-mdat}
use Rattle.heif.proofs.File.{length-file}
use Rattle.plan_layout.specs.Laid.{Laid}
use Rattle.plan.specs.Plan.{MadeFrom}
use Rattle.plan.specs.declared.FilePlan.{FilePlan}
use Rattle.write_boxes.specs.Mdat.{payload_bytes}
use Rattle.write_boxes.proofs.Payloads.{mdat_parts}

module _ (f : Form) (p : Panel) (m : FilePlan) (made : MadeFrom f p m) where
  even : Even p
  even = even-accepted f p (accepted f p made.accepted)

  e : Laid f p m.layout
  e = made.laid

  its_head : ftyp m.layout.color_rext m.layout.gain_rext m.items.tone ≡ head p
  its_head = λ i. ftyp (e.color_rext i) (e.gain_rext i) (made.items i).tone

  head_size : ftyp_size m.layout.color_rext m.layout.gain_rext m.items.tone ≡ length (head p).body
  head_size = (λ i. ftyp_size (e.color_rext i) (e.gain_rext i) (made.items i).tone) ∙ sym (length-head p)

  pub ftyp_whole : m.layout.ftyp ≡ 8 + ftyp_size m.layout.color_rext m.layout.gain_rext m.items.tone
  ftyp_whole = omega (arith, e.ftyp, head_size)

  pub mdat_whole : m.layout.mdat ≡ 8 + mdat_size p
  mdat_whole = omega (arith, e.mdat, length-mdat p even)

  pub long : length (file f p) ≡ (8 + ftyp_size m.layout.color_rext m.layout.gain_rext m.items.tone) + ((8 + meta_size f p) + (8 + mdat_size p))
  long = omega (arith, length-file f p even, head_size, length-head p)

  pub three_boxes : boxes (ftyp m.layout.color_rext m.layout.gain_rext m.items.tone ∷ meta f (locations (data_at f p) p) p ∷ box "mdat" (payload_bytes p) ∷ []) ≡ file f p
  unfolding file
  three_boxes = λ i. boxes (its_head i ∷ meta f (locations (data_at f p) p) p ∷ sym (mdat_parts p even.sum even.alpha_sum) i ∷ [])
