-- What agreement is: the fields that agreeing panels have in common, and the two agreements; and the normal form taken twice is itself.
use mathlib.Core.Path.{◌≡◌, refl, ap}
use Rattle.std.specs.Prelude.{Option, None, Some}
use mathlib.Core.List.{List}
use Prim.Native.Nat.{ℕ}
use Rattle.panel.specs.Types.{unspecified}
use Rattle.panel.specs.Panel.{Colour, Gain, Panel}
use Rattle.panel.specs.Agreement.{stated, filled, shown, norm_gain, norm, Agree}
use Rattle.panel.specs.declared.color.Cicp.{Cicp}

-- p with another colour and another gain map
abbrev pub put : Panel → Colour → Option Gain → Panel
put p c g =
    record {
      dims = p.dims;
      visible = p.visible;
      depth = p.depth;
      alpha_depth = p.alpha_depth;
      tiles = p.tiles;
      alpha = p.alpha;
      colour = c;
      metadata = p.metadata;
      gain = g;
    }

-- p with another gain map alone; with its own it is the panel again
abbrev pub with_gain : Panel → Option Gain → Panel
with_gain p g = put p p.colour g

-- g with another tone map and another alternate colour
abbrev pub alter : Gain → Option (List ℕ) → Option Colour → Gain
alter g t a =
    record {
      hvcc = g.hvcc;
      sample = g.sample;
      width = g.width;
      height = g.height;
      depth = g.depth;
      cicp = g.cicp;
      xmp = g.xmp;
      tone = t;
      alternate = a;
    }

-- ---- panels that agree

-- the fields that neither agreement speaks of
pub record Alike (p q : Panel) : Type 0 where
  pub dims : p.dims ≡ q.dims
  pub visible : p.visible ≡ q.visible
  pub depth : p.depth ≡ q.depth
  pub alpha_depth : p.alpha_depth ≡ q.alpha_depth
  pub tiles : p.tiles ≡ q.tiles
  pub alpha : p.alpha ≡ q.alpha
  pub orientation : p.metadata.orientation ≡ q.metadata.orientation
  pub light : p.metadata.light ≡ q.metadata.light
  pub exif : p.metadata.exif ≡ q.metadata.exif

pub alike : (p q : Panel) → Agree p q → Alike p q
unfolding norm
alike p q a =
    record {
      dims = ap (λ (r : Panel). r.dims) a.same;
      visible = ap (λ (r : Panel). r.visible) a.same;
      depth = ap (λ (r : Panel). r.depth) a.same;
      alpha_depth = ap (λ (r : Panel). r.alpha_depth) a.same;
      tiles = ap (λ (r : Panel). r.tiles) a.same;
      alpha = ap (λ (r : Panel). r.alpha) a.same;
      orientation = ap (λ (r : Panel). r.metadata.orientation) a.same;
      light = ap (λ (r : Panel). r.metadata.light) a.same;
      exif = ap (λ (r : Panel). r.metadata.exif) a.same;
    }

abbrev nothing_stated : Colour
nothing_stated = record { cicp = None; icc = None }

-- unstated colour agrees with unspecified full-range
pub unstated_agrees : (p : Panel) (g : Option Gain) → Agree (put p nothing_stated g) (put p (record { cicp = Some unspecified; icc = None }) g)
unfolding norm
unstated_agrees p g = record { same = refl }

-- an alternate colour that states nothing agrees with none, and so does any without a tone map
pub empty_alternate_agrees : (p : Panel) (c : Colour) (g : Gain) (t : List ℕ)
    → Agree (put p c (Some (alter g (Some t) (Some nothing_stated)))) (put p c (Some (alter g (Some t) None)))
unfolding norm
empty_alternate_agrees p c g t = record { same = refl }

pub untoned_alternate_agrees : (p : Panel) (c : Colour) (g : Gain) (a : Option Colour)
    → Agree (put p c (Some (alter g None a))) (put p c (Some (alter g None None)))
unfolding norm
untoned_alternate_agrees p c g a = record { same = refl }

-- ---- taken twice

stated_twice : (c : Option Cicp) (i : Option (List ℕ)) → stated (stated c i).cicp (stated c i).icc ≡ stated c i
stated_twice (Some c) i = refl
stated_twice None (Some i) = refl
stated_twice None None = refl

filled_twice : (t : List ℕ) (c : Option Cicp) (i : Option (List ℕ)) → shown (Some t) (filled c i) ≡ filled c i
filled_twice t (Some c) i = refl
filled_twice t None (Some i) = refl
filled_twice t None None = refl

shown_twice : (t : Option (List ℕ)) (a : Option Colour) → shown t (shown t a) ≡ shown t a
shown_twice None a = refl
shown_twice (Some t) None = refl
shown_twice (Some t) (Some a) = filled_twice t a.cicp a.icc

gain_twice : (g : Option Gain) → norm_gain (norm_gain g) ≡ norm_gain g
gain_twice None = refl
gain_twice (Some g) = ap (λ (a : Option Colour). Some (alter g g.tone a)) (shown_twice g.tone g.alternate)

pub norm_twice : (p : Panel) → norm (norm p) ≡ norm p
unfolding norm
norm_twice p = let c = stated_twice p.colour.cicp p.colour.icc in let g = gain_twice p.gain in λ i. put p (c i) (g i)
