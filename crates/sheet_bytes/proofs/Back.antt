-- Reading the sheet of a panel gives the panel back.
use mathlib.Core.Path.{◌≡◌, refl, sym, ap, ◌∙◌}
use mathlib.Core.Bool.{cond}
use Rattle.std.specs.Prelude.{Option, None, Some, is_some}
use mathlib.Core.List.{List, []}
use Prim.Native.Nat.{ℕ, ◌*◌, ◌^◌, ◌≤◌, ◌<◌}
use native.Mathlib.Omega.{arith}
use lib.ListN.{length, length-append}
use borrow.Author.Tests.{le-ltb}
use Rattle.octets.specs.Numbers.{total}
use Rattle.panel.specs.Panel.{Colour, Gain, Panel}
use Rattle.panel.specs.Parts.{tone_of}
use Rattle.panel.specs.Agreement.{shown, filled}
use Rattle.panel.specs.Widths.{Of, LightFits, GainFits}
use Rattle.panel.specs.declared.metadata.ContentLightLevel.{ContentLightLevel}
use Rattle.sheet_fields.specs.Read.{got, stop}
use Rattle.sheet_fields.specs.Fields.{string, optional}
use Rattle.sheet_fields.specs.Codes.{orientation, cicp}
use Rattle.sheet_frame.specs.Frame.{dims}
use Rattle.sheet_frame.specs.declared.map.Map.{Map}
use Rattle.sheet.specs.Sheet.{Pictures, two_pictures, colour, oriented, light, metadata, image, alternate, gain, fields, sheet}
use Rattle.sheet_bytes.specs.Bytes.{string_bytes, cicp_bytes, optional_bytes, dims_bytes, pictures_bytes, colour_bytes, turned, orientation_bytes}
use Rattle.sheet_bytes.specs.Bytes.{light_bytes, metadata_bytes, image_bytes, cicp_in, icc_in, alternate_in, alternate_bytes, gain_bytes, present}
use Rattle.sheet_bytes.specs.Bytes.{pictures_in, sheet_bytes}
use Rattle.sheet_bytes.specs.Sayable.{Tiled, Shown, Sayable}
use Rattle.sheet_bytes.proofs.Says.{Says, Ends, and_then, closes, as_well, off_bytes, off_number, off_string, off_lengths, off_optional, and-ends}
use Rattle.sheet_bytes.proofs.Says.{last-ends}
use Rattle.sheet_bytes.proofs.Codes.{off_depth, off_orientation, turned_back, off_cicp}
use Rattle.sheet_bytes.proofs.Maps.{off_map}

-- P of what is present, from P of everything
of_all : {A : Type 0} {P : A → Type 0} → ((a : A) → P a) → (o : Option A) → Of P o
of_all h None = tt
of_all h (Some a) = h a

of_map : {A : Type 0} {P Q : A → Type 0} → ((a : A) → P a → Q a) → (o : Option A) → Of P o → Of Q o
of_map h None p = tt
of_map h (Some a) p = h a p

off_strings : (o : Option (List ℕ)) → Says (optional (is_some o) string) (optional_bytes string_bytes o) o
off_strings o = off_optional string string_bytes o (of_all off_string o)

off_cicps : (o : Option _) → Says (optional (is_some o) cicp) (optional_bytes cicp_bytes o) o
off_cicps o = off_optional cicp cicp_bytes o (of_all off_cicp o)

off_pictures : (n : ℕ) (p : Pictures) → Tiled n p.colour → Tiled n p.alpha → total p.colour.lengths < 2 ^ 32 → total p.alpha.lengths < 2 ^ 32 → Says (two_pictures n) (pictures_bytes p) p
unfolding two_pictures
off_pictures n p c a hc ha =
    and_then _ (off_string p.colour.hvcc)
    (and_then _ (off_string p.alpha.hvcc)
    (and_then _ (off_lengths p.colour.lengths n c.count hc)
    (and_then _ (off_lengths p.alpha.lengths n a.count ha)
    (and_then _ (off_bytes (total p.colour.lengths) p.colour.bytes (sym c.sum))
    (closes _ (off_bytes (total p.alpha.lengths) p.alpha.bytes (sym a.sum)) refl)))))

-- ---- fields that may be left out

off_colour : (c : Colour) → Says (colour (is_some c.cicp) (is_some c.icc)) (colour_bytes c) c
unfolding colour
off_colour c = and_then _ (off_cicps c.cicp) (closes _ (off_strings c.icc) refl)

off_light : (l : ContentLightLevel) → LightFits l → Says light (light_bytes l) l
unfolding light
off_light l f = and_then _ (off_number 2 l.max_content_light_level f.content) (closes _ (off_number 2 l.max_pic_average_light_level f.average) refl)

off_metadata : (p : Panel) → Of LightFits p.metadata.light → Says (metadata (present p)) (metadata_bytes p.metadata) p.metadata
unfolding metadata oriented
off_metadata p f =
    let o = p.metadata.orientation in
    let l = p.metadata.light in
    and_then _ (as_well (turned_back o) (closes _ (off_optional orientation orientation_bytes (turned o) (of_all off_orientation (turned o))) refl))
    (and_then _ (off_optional light light_bytes l (of_map off_light l f))
    (closes _ (off_strings p.metadata.exif) refl))

-- ---- the gain map

abbrev plain : Gain → Gain
plain g = record { hvcc = g.hvcc; sample = g.sample; width = g.width; height = g.height; depth = g.depth; cicp = g.cicp; xmp = g.xmp; tone = None; alternate = None }

off_image : (g : Gain) → GainFits g → Says image (image_bytes g) (plain g)
unfolding image
off_image g f =
    and_then _ (off_string g.hvcc)
    (and_then _ (off_string g.sample)
    (and_then _ (off_number 4 g.width f.width)
    (and_then _ (off_number 4 g.height f.height)
    (and_then _ (off_depth g.depth)
    (and_then _ (off_cicp g.cicp)
    (closes _ (off_string g.xmp) refl))))))

filled_back : (tone : Option (List ℕ)) (a : Option Colour) → shown tone a ≡ a → filled (cicp_in a) (icc_in a) ≡ a
filled_back t a e = grind arith

module _ (m : Map) where
  off_alternate : (a : Option Colour) → m.alternate_cicp ≡ is_some (cicp_in a) → m.alternate_icc ≡ is_some (icc_in a) → Says (alternate m) (alternate_bytes a) (filled (cicp_in a) (icc_in a))
  unfolding alternate
  off_alternate a e f = rw (e, f) (closes _ (off_colour (record { cicp = cicp_in a; icc = icc_in a })) refl)

  off_tone : (o : Option (List ℕ)) → m.tmap ≡ is_some o → Says (optional m.tmap string) (optional_bytes string_bytes o) o
  off_tone o e = rw e (off_strings o)

  off_gain : (g : Gain) → m.tmap ≡ is_some g.tone → m.alternate_cicp ≡ is_some (cicp_in g.alternate) → m.alternate_icc ≡ is_some (icc_in g.alternate) → GainFits g → Shown g → Says (gain m) (gain_bytes g) g
  unfolding gain
  off_gain g e e' e'' f h =
      and_then _ (off_image g f)
      (and_then _ (off_tone g.tone e)
      (closes _ (as_well (filled_back g.tone g.alternate h.same) (off_alternate g.alternate e' e'')) refl))

  off_gains : (o : Option Gain) → m.tmap ≡ is_some (tone_of o) → m.alternate_cicp ≡ is_some (cicp_in (alternate_in o)) → m.alternate_icc ≡ is_some (icc_in (alternate_in o)) → Of GainFits o → Of Shown o → Of (λ g. Says (gain m) (gain_bytes g) g) o
  off_gains None e e' e'' f h = tt
  off_gains (Some g) e e' e'' f h = off_gain g e e' e'' f h

-- ---- the sheet

module _ (p : Panel) (h : Sayable p) where
  off_dims : Says dims (dims_bytes p.dims) p.dims
  unfolding dims
  off_dims =
      and_then _ (off_number 2 p.dims.cols h.cols)
      (and_then _ (off_number 2 p.dims.rows h.rows)
      (and_then _ (off_number 4 p.dims.tile_w h.fits.dims.tile_w)
      (and_then _ (off_number 4 p.dims.tile_h h.fits.dims.tile_h)
      (and_then _ (off_number 4 p.dims.full_w h.fits.dims.full_w)
      (closes _ (off_number 4 p.dims.full_h h.fits.dims.full_h) refl)))))

  bytes-short : (length p.tiles.bytes ≤ 12288) × (length p.alpha.bytes ≤ 12288)
  unfolding sheet_bytes
  bytes-short = let s = simp length-append at h.short in (omega arith, omega arith)

  -- what is said of p: no visible size
  said : Panel
  said =
      record {
        dims = p.dims;
        visible = None;
        depth = p.depth;
        alpha_depth = p.alpha_depth;
        tiles = p.tiles;
        alpha = p.alpha;
        colour = p.colour;
        metadata = p.metadata;
        gain = p.gain;
      }

  all_said : said ≡ p
  unfolding said
  all_said = rw h.visible refl

  off_fields : Ends fields (sheet_bytes p) said
  unfolding fields sheet_bytes said
  off_fields =
      and-ends _ (off_map p h.alternate)
      (and-ends _ off_dims
      (and-ends _ (off_depth p.depth)
      (and-ends _ (off_depth p.alpha_depth)
      (and-ends _ (off_pictures (p.dims.rows * p.dims.cols) (pictures_in p) h.colour h.alpha (let b = bytes-short in omega (arith, h.colour.sum)) (let b = bytes-short in omega (arith, h.alpha.sum)))
      (and-ends _ (off_colour p.colour)
      (and-ends _ (off_metadata p h.fits.light)
      (last-ends _ (off_optional (gain (present p)) gain_bytes p.gain (off_gains (present p) p.gain refl refl refl h.fits.gain h.alternate)))))))))

  -- the sheet of a panel that a sheet can say gives the panel back
  pub back : sheet (sheet_bytes p) ≡ got p []
  unfolding sheet
  back = ap (λ b. cond b (stop 15) (fields (sheet_bytes p))) (le-ltb _ _ h.short) ∙ off_fields.ends (let s = h.short in omega arith) ∙ ap (λ q. got q []) all_said
