-- What a layout says of a panel's file: each number is that of the definition.
use Rattle.std.specs.Prelude.{◌≡◌, ℕ, ◌+◌, ◌≤◌, length}
use Rattle.panel.specs.Panel.{Panel}
use Rattle.panel.specs.Form.{Form}
use Rattle.heif.specs.Items.{shape}
use Rattle.heif.specs.Idat.{descriptor, idat}
use Rattle.heif.specs.Iloc.{locations, iloc}
use Rattle.heif.specs.Iinf.{iinf}
use Rattle.heif.specs.Iref.{iref}
use Rattle.heif.specs.Ipco.{slots, ipco}
use Rattle.heif.specs.Ipma.{positions, associations, ipma}
use Rattle.heif.specs.Hvcc.{rext}
use Rattle.heif.specs.Ftyp.{gain_rext, head}
use Rattle.heif.specs.Iprp.{iprp}
use Rattle.heif.specs.Meta.{meta}
use Rattle.heif.specs.Mdat.{mdat, exif_size, mdat_size}
use Rattle.heif.specs.File.{data_at}
use Rattle.plan_items.specs.Payloads.{payload_lengths}
use Rattle.plan_items.specs.declared.payloads.Payloads.{Payloads}
use Rattle.plan_sizes.specs.declared.sizes.Sizes.{Sizes}
use Rattle.plan_layout.specs.declared.Layout.{Layout}

-- where the payloads of a panel lie whose colour samples begin at `at`, and how many bytes those behind the samples have
abbrev pub payloads_from : ℕ → Panel → Payloads
payloads_from at p =
    record {
      descriptor = length (descriptor p.dims);
      color = at;
      alpha = at + length p.tiles.bytes;
      other = at + length p.tiles.bytes + length p.alpha.bytes;
      exif = exif_size p.metadata.exif;
      gain = payload_lengths p.gain;
    }

pub record Laid (f : Form) (p : Panel) (y : Layout) : Type 0 where
  pub ftyp : y.ftyp ≡ 8 + length (head p).body
  pub iloc : y.iloc ≡ 8 + length (iloc f (locations (data_at f p) p)).body
  pub iinf : y.iinf ≡ 8 + length (iinf f (shape p)).body
  pub iref : y.iref ≡ 8 + length (iref f (shape p)).body
  pub iprp : y.iprp ≡ 8 + length (iprp f p).body
  pub ipco : y.ipco ≡ 8 + length (ipco p).body
  pub ipma : y.ipma ≡ 8 + length (ipma f (associations (shape p) (positions 1 (slots p)))).body
  pub idat : y.idat ≡ 8 + length (idat p.dims).body
  pub meta : y.meta ≡ 8 + length (meta f (locations (data_at f p) p) p).body
  pub mdat : y.mdat ≡ 8 + length (mdat p).body
  pub payloads : y.payloads ≡ payloads_from (data_at f p) p
  pub color_rext : y.color_rext ≡ rext p.tiles.hvcc
  pub gain_rext : y.gain_rext ≡ gain_rext p.gain

-- the boxes make a file, and mdat holds the payloads of the panel
pub record Within (z : Sizes) (p : Panel) : Type 0 where
  pub file : z.ftyp + z.meta + z.mdat ≤ 4294967295
  pub iprp : z.iprp ≤ z.meta
  pub ipco : z.ipco ≤ z.iprp
  pub mdat : z.mdat ≡ 8 + mdat_size p
