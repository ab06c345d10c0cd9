-- 14496-12, 8.11.1: meta box.
use Rattle.std.specs.Prelude.{List, [], ◌∷◌, ℕ, ◌+◌}
use Rattle.octets.specs.Numbers.{◌‖◌}
use Rattle.octets.specs.Boxes.{Box, full, boxes}
use Rattle.panel.specs.Panel.{Panel}
use Rattle.panel.specs.Form.{Form}
use Rattle.heif.specs.Items.{shape}
use Rattle.heif.specs.Iloc.{Location, iloc, iloc_size}
use Rattle.heif.specs.Iinf.{iinf, iinf_size}
use Rattle.heif.specs.Iref.{iref, iref_size}
use Rattle.heif.specs.Hdlr.{hdlr, hdlr_size}
use Rattle.heif.specs.Pitm.{pitm, pitm_size}
use Rattle.heif.specs.Iprp.{iprp, iprp_size}
use Rattle.heif.specs.Grpl.{grpl, grpl_size}
use Rattle.heif.specs.Idat.{idat, idat_size}

abbrev pub meta_boxes : Form → List Location → Panel → List Box
meta_boxes f l p =
    let s = shape p in
    hdlr ∷ pitm f s ∷ iloc f l ∷ iinf f s ∷ iref f s ∷ iprp f p ∷ grpl s ‖ idat p.dims ∷ []

abbrev pub meta : Form → List Location → Panel → Box
meta f l p = full "meta" 0 0 (boxes (meta_boxes f l p))

-- ---- how many bytes its body has

abbrev pub meta_size : Form → Panel → ℕ
meta_size f p =
    let s = shape p in
    4 + hdlr_size + (8 + pitm_size f) + (8 + iloc_size f s) + (8 + iinf_size f s) + (8 + iref_size f s) + (8 + iprp_size f p)
    + grpl_size s + (8 + idat_size p.dims)
