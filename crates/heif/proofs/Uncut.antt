-- In each form that a caller can name, nothing is cut in the file of an accepted panel.
use mathlib.Core.Path.{◌≡◌, refl}
use Prim.Native.Nat.{ℕ, ◌+◌, ◌*◌, ◌^◌, ◌≤◌, ◌<◌}
use mathlib.Core.List.{List}
use native.Mathlib.Omega.{arith}
use lib.ListN.{length, length-append, length-map}
use Rattle.octets.proofs.Numbers.{value-be}
use Rattle.panel.specs.Panel.{Panel}
use Rattle.panel.specs.Form.{Form, ordinary, wide, form_of}
use Rattle.panel.specs.declared.FileForm.{FileForm}
use Rattle.panel.specs.declared.FileForm.TheVariants.{Ordinary, Wide}
use Rattle.heif.specs.Items.{shape, tone_id, last_id}
use Rattle.heif.specs.Ipco
use Rattle.heif.specs.Ipco.{slots}
use Rattle.heif.specs.Ipma.{positions, associated_items, colour_tile_list, colour_grid_list, alpha_tile_list, alpha_grid_list, image_list, tone_list}
use Rattle.heif.specs.File.{data_at}
use Rattle.heif.specs.Refusal.{refusal}
use Rattle.heif.specs.Uncut.{Uncut, ◌kept_in◌}
use Rattle.heif.proofs.Refusal.{Accepted, accepted, even-accepted}
use Rattle.heif.proofs.Items.{length-ids_from, toned}
use Rattle.heif.proofs.Iloc.{length-locations}
use Rattle.heif.proofs.Iinf.{length-infes}
use Rattle.heif.proofs.Ipma.{length-associations}
use Rattle.heif.proofs.Few.{few}

-- ---- an item's associations, wherever its properties stand, if a role has at most two

counted : (l : List ℕ) → length l ≤ 16 → length l kept_in 1
counted l h = value-be 1 (length l) (omega (arith, h))

module _ (its : Ipco.Role → List ℕ) (two : (r : Ipco.Role) → length (its r) ≤ 2) where
  colour_tile : length (colour_tile_list its) kept_in 1
  colour_tile =
      counted (colour_tile_list its)
      (simp (length-append, length-map) (omega (arith, two Ipco.hvcC_colour, two Ipco.ispe_tile, two Ipco.colr_first, two Ipco.clap)))

  colour_grid : length (colour_grid_list its) kept_in 1
  colour_grid =
      counted (colour_grid_list its)
      (simp (length-append, length-map)
      (omega (arith, two Ipco.ispe_whole, two Ipco.colr_first, two Ipco.pixi_colour, two Ipco.colr_second, two Ipco.clli, two Ipco.irot, two Ipco.imir)))

  alpha_tile : length (alpha_tile_list its) kept_in 1
  alpha_tile = counted (alpha_tile_list its) (simp (length-append, length-map) (omega (arith, two Ipco.hvcC_alpha, two Ipco.ispe_tile, two Ipco.clap)))

  alpha_grid : length (alpha_grid_list its) kept_in 1
  alpha_grid =
      counted (alpha_grid_list its)
      (simp (length-append, length-map) (omega (arith, two Ipco.ispe_whole, two Ipco.pixi_alpha, two Ipco.auxC_alpha, two Ipco.irot, two Ipco.imir)))

  image : length (image_list its) kept_in 1
  image =
      counted (image_list its)
      (simp (length-append, length-map)
      (omega (arith, two Ipco.hvcC_gain, two Ipco.ispe_gain, two Ipco.pixi_gain, two Ipco.auxC_gain, two Ipco.colr_gain, two Ipco.irot, two Ipco.imir)))

  tone_map : length (tone_list its) kept_in 1
  tone_map = counted (tone_list its) (simp length-append (omega (arith, two Ipco.ispe_tone, two Ipco.pixi_tone, two Ipco.colr_tone)))

-- where a count takes as many bytes as an id
uncut_of : (f : Form) (p : Panel) → f.count ≡ f.id → Accepted f p → Uncut f p
uncut_of f p w a =
    let s = shape p in
    let its = positions 1 (slots p) in
    let entries : last_id s < 2 ^ (8 * f.count) = rw w a.last in
    record {
      id = λ n h. value-be f.id n (omega (arith, h, a.last));
      grids = (omega arith, omega arith);
      exif = λ e. grind (arith, e);
      gain = λ e. grind (arith, e);
      tone = λ e. grind (arith, e, toned p.gain e);
      group = λ e. value-be 4 (tone_id s + 1) (grind (arith, a.few));
      iloc = rw (length-locations (data_at f p) p (even-accepted f p a)) (value-be f.count (last_id s) entries);
      iinf = rw (length-infes f s) (value-be f.count (last_id s) entries);
      ipma = rw (length-associations s its) (value-be 4 (associated_items s) (grind (arith, a.few)));
      colour_tile = colour_tile its (few p);
      colour_grid = colour_grid its (few p);
      alpha_tile = alpha_tile its (few p);
      alpha_grid = alpha_grid its (few p);
      image = image its (few p);
      tone_map = tone_map its (few p);
      tiles = λ first. rw (length-ids_from first s.tiles) (value-be 2 s.tiles (omega (arith, a.few)));
    }

pub uncut : (form : FileForm) (p : Panel) → refusal (form_of form) p ≡ 0 → Uncut (form_of form) p
unfolding form_of
uncut Ordinary p r = uncut_of ordinary p refl (accepted ordinary p r)
uncut Wide p r = uncut_of wide p refl (accepted wide p r)
