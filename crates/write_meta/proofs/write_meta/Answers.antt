-- The head, and the eight boxes of meta, or seven.
use mathlib.Core.Path.{ap}
use mathlib.Core.List.{[], ◌∷◌}
use native.Mathlib.Omega.{arith}
use Rattle.octets.specs.Numbers.{◌‖◌, be}
use Rattle.octets.specs.Boxes.{full, boxes}
use Rattle.octets.proofs.Stores.{full_boxed, retold, ◌▸◌}
use Rattle.panel.specs.Form.{form_of}
use Rattle.panel.specs.Of.{panel_of}
use Rattle.heif.specs.Hdlr.{hdlr}
use Rattle.heif.specs.Iloc.{iloc}
use Rattle.heif.specs.Iinf.{iinf}
use Rattle.heif.specs.Iref.{iref}
use Rattle.heif.specs.Grpl.{grpl}
use Rattle.heif.specs.Idat.{idat, idat_size}
use Rattle.write_iloc.specs.Locations.{placed}
use Rattle.write_meta.specs.Sections.{iprp_of}
use Rattle.write_meta.proofs.write_meta.Goals as goal

pub write_idat-requires-clause-room : goal.write_idat-requires-clause-room
unfolding panel_of
write_idat-requires-clause-room c =
    rw
    c.new.ensures
    (omega (
      arith,
      c.requires.room,
      c.write_fullbox.ensures.end,
      c.write_fullbox.ensures.kept,
      c.write_hdlr.ensures.wrote.end,
      c.write_hdlr.ensures.wrote.kept,
      c.write_pitm.ensures.wrote.end,
      c.write_pitm.ensures.wrote.kept,
      c.write_iloc.ensures.wrote.end,
      c.write_iloc.ensures.wrote.kept,
      c.write_iinf.ensures.wrote.end,
      c.write_iinf.ensures.wrote.kept,
      c.write_iref.ensures.wrote.end,
      c.write_iref.ensures.wrote.kept,
      c.write_iprp.ensures.wrote.end,
      c.write_iprp.ensures.wrote.kept,
      c.write_grpl.ensures.wrote.end,
      c.write_grpl.ensures.wrote.kept,
    ))

pub returns : goal.returns
unfolding panel_of
returns c =
    let f = form_of c.args.form in
    let p = panel_of c.args.panel.now in
    let s = c.args.items in
    let l = placed s c.args.layout.now.payloads p.tiles.lengths p.alpha.lengths in
    let grid = c.new.ensures in
    let sides = ap idat_size grid in
    let id = c.color_grid_id.ensures in
    let body =
    c.write_hdlr.ensures
    ▸ c.write_pitm.ensures
    ▸ c.write_iloc.ensures
    ▸ c.write_iinf.ensures
    ▸ c.write_iref.ensures
    ▸ c.write_iprp.ensures
    ▸ c.write_grpl.ensures
    ▸ c.write_idat.ensures in
    retold
    (full_boxed "meta" 0 0 c.write_fullbox.ensures body.wrote (omega (arith, c.requires.sections.meta, sides)))
    (λ i.
    full
    "meta"
    0
    0
    (boxes (hdlr ∷ full "pitm" f.step 0 (be f.id (id i)) ∷ iloc f l ∷ iinf f s ∷ iref f s ∷ iprp_of f p s c.args.places.now ∷ grpl s ‖ idat (grid i) ∷ []))
    ∷ [])
    (omega (arith, sides))
