-- The sizes of the boxes that the code computes, heads included: each is the definition's.
use Rattle.std.specs.Prelude.{◌≡◌, ◌+◌}
use Rattle.panel.specs.Panel.{Panel}
use Rattle.panel.specs.Form.{Form}
use Rattle.heif.specs.Items.{shape}
use Rattle.heif.specs.Ipco.{ipco_size}
use Rattle.heif.specs.Ipma.{ipma_size}
use Rattle.heif.specs.Ftyp.{head_size}
use Rattle.heif.specs.Iloc.{iloc_size}
use Rattle.heif.specs.Iinf.{iinf_size}
use Rattle.heif.specs.Iref.{iref_size}
use Rattle.heif.specs.Iprp.{iprp_size}
use Rattle.heif.specs.Idat.{idat_size}
use Rattle.heif.specs.Meta.{meta_size}
use Rattle.heif.specs.Mdat.{mdat_size}
use Rattle.plan_sizes.specs.declared.sizes.Sizes.{Sizes}

pub record Sized (f : Form) (p : Panel) (y : Sizes) : Type 0 where
  pub ftyp : y.ftyp ≡ 8 + head_size p
  pub iloc : y.iloc ≡ 8 + iloc_size f (shape p)
  pub iinf : y.iinf ≡ 8 + iinf_size f (shape p)
  pub iref : y.iref ≡ 8 + iref_size f (shape p)
  pub ipma : y.ipma ≡ 8 + ipma_size f p
  pub idat : y.idat ≡ 8 + idat_size p.dims
  pub ipco : y.ipco ≡ 8 + ipco_size p
  pub iprp : y.iprp ≡ 8 + iprp_size f p
  pub meta : y.meta ≡ 8 + meta_size f p
  pub mdat : y.mdat ≡ 8 + mdat_size p
