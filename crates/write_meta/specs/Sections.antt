-- meta of items, locations and places that its writer is handed, how many bytes it takes, and what it asks of a layout.
use Rattle.std.specs.Prelude.{◌≡◌, true, [], ◌∷◌, ℕ, ◌+◌, ◌≤◌, length, List}
use Rattle.octets.specs.Numbers.{◌‖◌, total}
use Rattle.octets.specs.Boxes.{Box, box, full, boxes}
use Rattle.panel.specs.Panel.{Panel}
use Rattle.panel.specs.Form.{Form}
use Rattle.panel.specs.declared.Shape.{Shape}
use Rattle.heif.specs.Iloc.{Location, iloc, iloc_size}
use Rattle.heif.specs.Iinf.{iinf, iinf_size}
use Rattle.heif.specs.Iref.{iref, iref_size}
use Rattle.heif.specs.Ipco.{ipco, ipco_size}
use Rattle.heif.specs.Ipma.{associations, ipma}
use Rattle.heif.specs.Hdlr.{hdlr, hdlr_size}
use Rattle.heif.specs.Pitm.{pitm, pitm_size}
use Rattle.heif.specs.Grpl.{grpl, grpl_size}
use Rattle.heif.specs.Idat.{idat, idat_size}
use Rattle.plan_items.specs.Grid.{Sided}
use Rattle.plan_runs.specs.Roles.{its_of}
use Rattle.plan_runs.specs.declared.Places.{Places}
use Rattle.plan_layout.specs.declared.Layout.{Layout}

-- ---- iprp from its two boxes, and its bytes

abbrev pub iprp_of : Form → Panel → Shape → Places → Box
iprp_of f p s z = box "iprp" (boxes (ipco p ∷ ipma f (associations s (its_of z)) ∷ []))

abbrev pub iprp_bytes : Form → Panel → Shape → Places → ℕ
iprp_bytes f p s z = 8 + ((8 + ipco_size p) + (8 + length (ipma f (associations s (its_of z))).body))

-- ---- meta from its boxes, and its bytes

abbrev pub meta_of : Form → Panel → Shape → Places → List Location → Box
meta_of f p s z l = full "meta" 0 0 (boxes (hdlr ∷ pitm f s ∷ iloc f l ∷ iinf f s ∷ iref f s ∷ iprp_of f p s z ∷ grpl s ‖ idat p.dims ∷ []))

abbrev pub meta_bytes : Form → Panel → Shape → Places → ℕ
meta_bytes f p s z =
    12 + (hdlr_size + ((8 + pitm_size f) + ((8 + iloc_size f s) + ((8 + iinf_size f s) + ((8 + iref_size f s) + (iprp_bytes f p s z + (grpl_size s + (8 + idat_size p.dims))))))))

-- ---- what is asked of a layout, of items and of places

pub record Sections (f : Form) (p : Panel) (y : Layout) (s : Shape) (z : Places) : Type 0 where
  -- the sizes are those of the boxes
  pub meta : y.meta ≡ meta_bytes f p s z
  pub iloc : y.iloc ≡ 8 + iloc_size f s
  pub iinf : y.iinf ≡ 8 + iinf_size f s
  pub iref : y.iref ≡ 8 + iref_size f s
  pub iprp : y.iprp ≡ iprp_bytes f p s z
  pub ipco : y.ipco ≡ 8 + ipco_size p
  pub ipma : y.ipma ≡ 8 + length (ipma f (associations s (its_of z))).body
  pub idat : y.idat ≡ 8 + idat_size p.dims
  -- the items are those of a grid that has a descriptor, its tiles can be counted, and a tone map comes with a gain map
  pub sided : Sided p.dims
  pub counted : s.tiles ≤ 65535
  pub toned : s.tone ≡ true → s.gain ≡ true
  -- both pictures have a sample for each tile, and the payloads end within 32 bits
  pub tiles : length p.tiles.lengths ≡ s.tiles
  pub alphas : length p.alpha.lengths ≡ s.tiles
  pub tiles_end : y.payloads.color + total p.tiles.lengths ≤ 4294967295
  pub alphas_end : y.payloads.alpha + total p.alpha.lengths ≤ 4294967295
  pub others_end : y.payloads.other + y.payloads.exif + y.payloads.gain.sample + y.payloads.gain.xmp ≤ 4294967295
