-- ftyp, meta and mdat, which are the file.
use mathlib.Core.Path.{◌≡◌, sym, ap, ◌∙◌}
use mathlib.Core.List.{[], ◌∷◌}
use Prim.Native.Nat.{◌≤◌}
use native.Mathlib.Omega.{arith}
use lib.ListN.{length, drop}
use Rattle.std.proofs.Common.{rules}
use Rattle.octets.specs.Numbers.{◌‖◌}
use Rattle.octets.specs.Boxes.{Box}
use Rattle.octets.proofs.Stores.{front, told, retold, ◌▸◌}
use Rattle.panel.specs.Form.{form_of}
use Rattle.panel.specs.Of.{panel_of}
use Rattle.heif.specs.File.{file}
use Rattle.write_file.proofs.Sections.{its_meta, bytes, sections}
use Rattle.write_file.proofs.Ready.{ftyp_whole, mdat_whole, long, three_boxes}
use Rattle.write_file.proofs.write_file.Goals as goal

pub write_ftyp-requires-clause-room : goal.write_ftyp-requires-clause-room
write_ftyp-requires-clause-room c =
    let made = c.requires.made in
    rw c.has_tone.ensures (omega (arith, c.requires.room, made.long, long _ _ _ made, c.new-out.ensures.at, ap length c.new-out.ensures.bytes))

pub write_ftyp-requires-clause-whole : goal.write_ftyp-requires-clause-whole
write_ftyp-requires-clause-whole c = rw c.has_tone.ensures (ftyp_whole _ _ _ c.requires.made)

pub write_meta-requires-clause-sections : goal.write_meta-requires-clause-sections
write_meta-requires-clause-sections c = sections _ _ _ c.requires.made

pub write_meta-requires-clause-room : goal.write_meta-requires-clause-room
write_meta-requires-clause-room c =
    let made = c.requires.made in
    let head = rw c.has_tone.ensures at c.write_ftyp.ensures in
    omega (arith, c.requires.room, made.long, bytes _ _ _ made, long _ _ _ made, c.new-out.ensures.at, ap length c.new-out.ensures.bytes, head.wrote.end, head.wrote.kept)

pub write_mdat-requires-clause-room : goal.write_mdat-requires-clause-room
write_mdat-requires-clause-room c =
    let made = c.requires.made in
    let head = rw c.has_tone.ensures at c.write_ftyp.ensures in
    omega (
      arith,
      c.requires.room,
      made.long,
      bytes _ _ _ made,
      long _ _ _ made,
      c.new-out.ensures.at,
      ap length c.new-out.ensures.bytes,
      head.wrote.end,
      head.wrote.kept,
      c.write_meta.ensures.wrote.end,
      c.write_meta.ensures.wrote.kept,
    )

pub write_mdat-requires-clause-whole : goal.write_mdat-requires-clause-whole
write_mdat-requires-clause-whole c = mdat_whole _ _ _ c.requires.made

pub returns : goal.returns
returns c =
    let made = c.requires.made in
    let f = form_of c.args.form in
    let p = panel_of c.args.panel.now in
    let head = rw c.has_tone.ensures at c.write_ftyp.ensures in
    let meta = retold c.write_meta.ensures (ap (λ (b : Box). b ∷ []) (its_meta f p _ made)) (bytes f p _ made) in
    let wrote = told (head ▸ meta ▸ c.write_mdat.ensures).wrote (three_boxes f p _ made) (sym (long f p _ made)) in
    let room : length (file f p) ≤ length c.new-out.result.bytes.now = omega (arith, c.requires.room, made.long, ap length c.new-out.ensures.bytes) in
    let out : c.write_mdat.new.out.bytes.now ≡ file f p ‖ drop (length (file f p)) c.args.bytes.now
    = front wrote c.new-out.ensures.at room ∙ ap (λ l. file f p ‖ drop (length (file f p)) l) c.new-out.ensures.bytes in
    search (rules, out)
