-- The normal form keeps the file and the refusal.
use mathlib.Core.Path.{◌≡◌, refl, ap, ◌∙◌}
use mathlib.Core.Bool.{◌||◌}
use Rattle.std.specs.Prelude.{Option, None, Some, is_some}
use mathlib.Core.List.{List, [], ◌∷◌}
use Prim.Native.Nat.{ℕ, ◌*◌}
use lib.ListN.{length}
use Rattle.panel.specs.Panel.{Colour, Gain, Panel}
use Rattle.panel.specs.Agreement.{stated, filled, shown, norm_gain, norm}
use Rattle.panel.specs.Form.{Form}
use Rattle.panel.specs.Parts.{tone_of}
use Rattle.panel.specs.declared.color.Cicp.{Cicp}
use Rattle.panel.proofs.Agreement.{put, alter}
use Rattle.heif.specs.Items.{shape}
use Rattle.heif.specs.File.{file}
use Rattle.heif.specs.Refusal.{bad_grid, bad_visible, seen, bad_cover, bad_counts, bad_sum, bad_items, too_long, check, first, refusal}

-- ---- the file

module _ (f : Form) (p : Panel) where
  stated-file : (c : Option Cicp) (i : Option (List ℕ)) (g : Option Gain) → file f (put p (record { cicp = c; icc = i }) g) ≡ file f (put p (stated c i) g)
  unfolding file
  stated-file (Some c) i g = refl
  stated-file None (Some i) g = refl
  stated-file None None g = refl

  filled-file : (l : Colour) (g : Gain) (t : List ℕ) (c : Option Cicp) (i : Option (List ℕ))
      → file f (put p l (Some (alter g (Some t) (Some (record { cicp = c; icc = i }))))) ≡ file f (put p l (Some (alter g (Some t) (filled c i))))
  unfolding file
  filled-file l g t (Some c) i = refl
  filled-file l g t None (Some i) = refl
  filled-file l g t None None = refl

  shown-file : (l : Colour) (g : Gain) (t : Option (List ℕ)) (a : Option Colour) → file f (put p l (Some (alter g t a))) ≡ file f (put p l (Some (alter g t (shown t a))))
  unfolding file
  shown-file l g None a = refl
  shown-file l g (Some t) None = refl
  shown-file l g (Some t) (Some a) = filled-file l g t a.cicp a.icc

  gain-file : (l : Colour) (g : Option Gain) → file f (put p l g) ≡ file f (put p l (norm_gain g))
  gain-file l None = refl
  gain-file l (Some g) = shown-file l g g.tone g.alternate

  pub file-norm : file f p ≡ file f (norm p)
  unfolding norm
  file-norm = stated-file p.colour.cicp p.colour.icc p.gain ∙ gain-file (stated p.colour.cicp p.colour.icc) p.gain

-- ---- the refusal

gain_kept : (g : Option Gain) → is_some g ≡ is_some (norm_gain g)
gain_kept None = refl
gain_kept (Some g) = refl

tone_kept : (g : Option Gain) → is_some (tone_of g) ≡ is_some (tone_of (norm_gain g))
tone_kept None = refl
tone_kept (Some g) = refl

shape-norm : (p : Panel) → shape p ≡ shape (norm p)
unfolding norm
shape-norm p =
    let g = gain_kept p.gain in
    let t = tone_kept p.gain in
    λ i. record { tiles = length p.tiles.lengths; exif = is_some p.metadata.exif; gain = g i; tone = t i }

pub refusal-norm : (f : Form) (p : Panel) → refusal f p ≡ refusal f (norm p)
unfolding refusal norm
refusal-norm f p =
    let n = ap length (file-norm f p) in
    let s = shape-norm p in
    λ i.
    first (check 1 (λ _. bad_grid p.dims.rows p.dims.cols)
    ∷ check 22 (λ _. bad_visible p.dims p.visible)
    ∷ check 8 (λ _. bad_cover p.dims (seen p.dims p.visible))
    ∷ check 2 (λ _. bad_counts (p.dims.rows * p.dims.cols) (length p.tiles.lengths) (length p.alpha.lengths))
    ∷ check 3 (λ _. bad_sum p.tiles || bad_sum p.alpha)
    ∷ check 4 (λ _. bad_items f (s i))
    ∷ check 5 (λ _. too_long (n i))
    ∷ [])
