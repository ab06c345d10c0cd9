-- What holds of every value that is read off a sheet of at most 12,288 bytes: no part of it is longer, and the lengths fit the bytes;
-- and every refusal on the way has a number from 11 to 15.
use mathlib.Core.Path.{◌≡◌, refl, sym, ap}
use mathlib.Core.Bool.{Bool, true, false}
use Rattle.std.specs.Prelude.{Option, None, Some}
use mathlib.Core.List.{List}
use Prim.Native.Nat.{ℕ, zero, suc, ◌*◌, ◌≤◌}
use native.Mathlib.Omega.{arith}
use lib.ListN.{length, drop, length-drop}
use lib.Seq.{length-take-le}
use Rattle.octets.specs.Numbers.{total}
use Rattle.panel.specs.Panel.{Colour, Metadata, Gain, Panel}
use Rattle.panel.specs.Agreement.{filled}
use Rattle.panel.specs.Widths.{Of}
use Rattle.panel.specs.declared.color.Cicp.{Cicp}
use Rattle.sheet_fields.specs.Read.{Read, Reader, got, stop, give, onward, ◌then◌}
use Rattle.sheet_fields.specs.Fields.{bytes, number, string, words, lengths, known, coded, optional}
use Rattle.sheet_fields.specs.Codes.{cicp}
use Rattle.sheet_frame.specs.Map.{judged, sheet_map}
use Rattle.sheet_frame.specs.Frame.{dims, end}
use Rattle.sheet_frame.specs.declared.map.Map.{Map}
use Rattle.sheet.specs.Sheet.{Pictures, two_pictures, colour, oriented, light, metadata, image, alternate, gain, fields}
use Rattle.sheet_bytes.specs.Sayable.{Tiled}

abbrev pub Short : List ℕ → Type 0
Short x = length x ≤ 12288

pub record Yields {A : Type 0} (f : Reader A) (P : A → Type 0) : Type 0 where
  pub yields : (s rest : List ℕ) (a : A) → Short s → f s ≡ got a rest → P a × Short rest
  pub stops : (s : List ℕ) (k : ℕ) → Short s → f s ≡ stop k → (11 ≤ k) × (k ≤ 15)

abbrev Any : {A : Type 0} → A → Type 0
Any a = Unit {0}

-- ---- laws

module _ {A B : Type 0} {P : A → Type 0} {Q : B → Type 0} {f : Reader A} where
  seq : (g : A → Reader B) → Yields f P → ((a : A) → P a → Yields (g a) Q) → Yields (f then g) Q
  seq g h k = record { yields = λ s rest b l e. go s rest b l (f s) refl e; stops = λ s n l e. halt s n l (f s) refl e }
    where
      halt : (s : List ℕ) (n : ℕ) → Short s → (r : Read A) → f s ≡ r → onward r g ≡ stop n → (11 ≤ n) × (n ≤ 15)
      halt s n l (got a t) e e' = let x = h.yields s t a l e in (k a x.0).stops t n x.1 e'
      halt s n l (stop j) e e' = let v : j ≡ n = cc in rw v at (h.stops s j l e)

      go : (s rest : List ℕ) (b : B) → Short s → (r : Read A) → f s ≡ r → onward r g ≡ got b rest → Q b × Short rest
      go s rest b l (got a t) e e' = let x = h.yields s t a l e in (k a x.0).yields t rest b x.1 e'
      go s rest b l (stop n) e e' = cc

gives : {A : Type 0} {P : A → Type 0} {a : A} → P a → Yields (give a) P
gives p = record { yields = λ s rest b l e. grind arith; stops = λ s k l e. grind arith }

ended : {A : Type 0} {P : A → Type 0} (a : A) → P a → Yields (end a) P
unfolding end
ended a p = record { yields = λ s rest b l e. grind arith; stops = λ s k l e. grind arith }

-- ---- fields

some_bytes : (n : ℕ) → Yields (bytes n) (λ x. (length x ≡ n) × Short x)
unfolding bytes
some_bytes n = record { yields = λ s rest x l e. grind (arith, length-take-le, length-drop); stops = λ s k l e. grind arith }

a-number : (k : ℕ) → Yields (number k) Any
unfolding number
a-number k = seq _ (some_bytes k) (λ x h. gives tt)

a-string : Yields string Short
unfolding string
a-string = seq _ (a-number 4) (λ n h. let x = some_bytes n in record { yields = λ s rest a l e. let r = x.yields s rest a l e in (r.0.1, r.1); stops = x.stops })

length-words : (n : ℕ) (x : List ℕ) → length (words n x) ≡ n
length-words zero x = refl
length-words (suc n) x = ap suc (length-words n (drop 4 x))

some-lengths : (n : ℕ) → Yields (lengths n) (λ l. (length l ≡ n) × (n ≤ 3072))
unfolding lengths
some-lengths n = seq _ (some_bytes (4 * n)) (λ x h. gives (length-words n x, omega arith))

a-known : {A : Type 0} (o : Option A) → Yields (known o) Any
a-known o = record { yields = λ s rest a l e. grind arith; stops = λ s k l e. grind arith }

a_code : {A : Type 0} (k : ℕ) (named : ℕ → Option A) → Yields (coded k named) Any
a_code k named = seq _ (a-number k) (λ n h. a-known (named n))

maybe : {A : Type 0} {P : A → Type 0} {f : Reader A} (b : Bool) → Yields f P → Yields (optional b f) (Of P)
unfolding optional
maybe true h = seq _ h (λ a p. gives p)
maybe false h = gives tt

a-cicp : Yields cicp Any
unfolding cicp
a-cicp = seq _ (a_code 2 _) (λ p h. seq _ (a_code 2 _) (λ t h. seq _ (a_code 2 _) (λ m h. seq _ (a_code 1 _) (λ f h. gives tt))))

-- ---- sections

a-map : Yields sheet_map Any
unfolding sheet_map judged
a-map = seq _ (a-number 2) (λ bits h. record { yields = λ s rest m l e. grind arith; stops = λ s k l e. grind arith })

some-dims : Yields dims Any
unfolding dims
some-dims = seq _ (a-number 2) (λ a h. seq _ (a-number 2) (λ b h. seq _ (a-number 4) (λ c h. seq _ (a-number 4) (λ d h. seq _ (a-number 4) (λ e h. seq _ (a-number 4) (λ f h. gives tt))))))

pub record Held (n : ℕ) (p : Pictures) : Type 0 where
  pub colour : Tiled n p.colour
  pub alpha : Tiled n p.alpha
  pub tiles : n ≤ 3072
  pub colour_hvcc : Short p.colour.hvcc
  pub alpha_hvcc : Short p.alpha.hvcc
  pub colour_bytes : Short p.colour.bytes
  pub alpha_bytes : Short p.alpha.bytes

both_pictures : (n : ℕ) → Yields (two_pictures n) (Held n)
unfolding two_pictures
both_pictures n =
    seq _ a-string (λ c hc. seq _ a-string (λ a ha.
    seq _ (some-lengths n) (λ cl hcl. seq _ (some-lengths n) (λ al hal.
    seq _ (some_bytes (total cl)) (λ cb hcb. seq _ (some_bytes (total al)) (λ ab hab.
    gives (record {
      colour = record { count = hcl.0; sum = sym hcb.0 };
      alpha = record { count = hal.0; sum = sym hab.0 };
      tiles = hcl.1;
      colour_hvcc = hc;
      alpha_hvcc = ha;
      colour_bytes = hcb.1;
      alpha_bytes = hab.1;
    })))))))

pub record ShortColour (c : Colour) : Type 0 where
  pub icc : Of Short c.icc

a-colour : (has_cicp has_icc : Bool) → Yields (colour has_cicp has_icc) ShortColour
unfolding colour
a-colour has_cicp has_icc = seq _ (maybe has_cicp a-cicp) (λ c h. seq _ (maybe has_icc a-string) (λ i hi. gives (record { icc = hi })))

pub record ShortMetadata (m : Metadata) : Type 0 where
  pub exif : Of Short m.exif

an_orientation : (b : Bool) → Yields (oriented b) Any
unfolding oriented
an_orientation b = seq _ (maybe b (a_code 1 _)) (λ o h. gives tt)

a-light : Yields light Any
unfolding light
a-light = seq _ (a-number 2) (λ a h. seq _ (a-number 2) (λ b h. gives tt))

some-metadata : (m : Map) → Yields (metadata m) ShortMetadata
unfolding metadata
some-metadata m = seq _ (an_orientation m.orientation) (λ o h. seq _ (maybe m.light_level a-light) (λ l h. seq _ (maybe m.exif a-string) (λ e he. gives (record { exif = he }))))

pub record ShortGain (g : Gain) : Type 0 where
  pub hvcc : Short g.hvcc
  pub sample : Short g.sample
  pub xmp : Short g.xmp
  pub tone : Of Short g.tone
  pub alternate : Of ShortColour g.alternate

an_image : Yields image (λ g. Short g.hvcc × Short g.sample × Short g.xmp)
unfolding image
an_image =
    seq _ a-string (λ c hc. seq _ a-string (λ s hs. seq _ (a-number 4) (λ w h. seq _ (a-number 4) (λ v h.
    seq _ (a_code 1 _) (λ d h. seq _ a-cicp (λ k h. seq _ a-string (λ x hx. gives (hc, hs, hx))))))))

short-filled : (c : Option Cicp) (i : Option (List ℕ)) → Of Short i → Of ShortColour (filled c i)
short-filled (Some c) i h = record { icc = h }
short-filled None (Some i) h = record { icc = h }
short-filled None None h = tt

an_alternate : (m : Map) → Yields (alternate m) (Of ShortColour)
unfolding alternate
an_alternate m = seq _ (a-colour m.alternate_cicp m.alternate_icc) (λ c h. gives (short-filled c.cicp c.icc h.icc))

a-gain : (m : Map) → Yields (gain m) ShortGain
unfolding gain
a-gain m =
    seq _ an_image (λ g hg. seq _ (maybe m.tmap a-string) (λ t ht. seq _ (an_alternate m) (λ a ha.
    gives (record { hvcc = hg.0; sample = hg.1; xmp = hg.2; tone = ht; alternate = ha }))))

-- ---- the panel

pub record Bounded (p : Panel) : Type 0 where
  pub visible : p.visible ≡ None
  pub pictures : Held (p.dims.rows * p.dims.cols) (record { colour = p.tiles; alpha = p.alpha })
  pub colour : ShortColour p.colour
  pub metadata : ShortMetadata p.metadata
  pub gain : Of ShortGain p.gain

pub a-panel : Yields fields Bounded
unfolding fields
a-panel =
    seq _ a-map (λ m h. seq _ some-dims (λ d h. seq _ (a_code 1 _) (λ k h. seq _ (a_code 1 _) (λ a h. seq _ (both_pictures (d.rows * d.cols)) (λ p hp.
    seq _ (a-colour m.cicp m.icc) (λ c hc. seq _ (some-metadata m) (λ x hx. seq _ (maybe m.gain_map (a-gain m)) (λ g hg.
    ended _ (record { visible = refl; pictures = hp; colour = hc; metadata = hx; gain = hg })))))))))
