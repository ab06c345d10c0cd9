-- The sizes are the boxes' lengths, and the samples begin behind ftyp, meta and the head of mdat.
use mathlib.Core.Path.{◌≡◌, ap, ◌∙◌}
use Prim.Native.Nat.{ℕ, ◌+◌}
use native.Mathlib.Omega.{arith}
use Rattle.panel.specs.Of.{panel_of}
use Rattle.heif.specs.Items.{shape}
use Rattle.heif.specs.File.{data_at}
use Rattle.heif.proofs.Iloc.{length-iloc}
use Rattle.heif.proofs.Iinf.{length-iinf}
use Rattle.heif.proofs.Iref.{length-iref}
use Rattle.heif.proofs.Ipco.{length-ipco}
use Rattle.heif.proofs.Ipma.{length-ipma}
use Rattle.heif.proofs.Ftyp.{length-head}
use Rattle.heif.proofs.Iprp.{length-iprp}
use Rattle.heif.proofs.Idat.{length-idat}
use Rattle.heif.proofs.Meta.{length-meta}
use Rattle.heif.proofs.Mdat.{length-mdat}
use Rattle.heif.proofs.File.{data_at-size}
use Rattle.plan_layout.specs.Laid.{payloads_from}
use Rattle.plan_layout.proofs.placed.Goals as goal

pub returns : goal.returns
unfolding panel_of
returns c =
    λ f even s.
    let p = panel_of c.args.panel.now in
    let at = data_at f p in
    let begins : c.args.z.ftyp + c.args.z.meta + 8 ≡ at = omega (arith, s.ftyp, s.meta, data_at-size f p even) in
    record {
      ftyp = omega (arith, s.ftyp, length-head p);
      iloc = omega (arith, s.iloc, length-iloc f at p even);
      iinf = omega (arith, s.iinf, length-iinf f (shape p));
      iref = omega (arith, s.iref, length-iref f (shape p));
      iprp = omega (arith, s.iprp, length-iprp f p);
      ipco = omega (arith, s.ipco, length-ipco p);
      ipma = omega (arith, s.ipma, length-ipma f p);
      idat = omega (arith, s.idat, length-idat p.dims);
      meta = omega (arith, s.meta, length-meta f at p even);
      mdat = omega (arith, s.mdat, length-mdat p even);
      payloads = c.payloads_of.ensures ∙ ap (λ (n : ℕ). payloads_from n p) begins;
      color_rext = c.hvcc_uses_rext.ensures;
      gain_rext = c.gain_uses_rext.ensures;
    }
