-- The byte parts that are lent beside the codes of a panel.
use Rattle.std.specs.Prelude.{List, ℕ}
use Rattle.panel.specs.Panel.{Tiles}
use Rattle.panel.specs.Of.{tiles_of}
use Rattle.c_types.specs.declared.LentParts.{LentParts}

-- each by its name
pub record Lent : Type 0 where
  pub tiles : Tiles
  pub alpha : Tiles
  pub icc : List ℕ
  pub exif : List ℕ
  pub gain_hvcc : List ℕ
  pub gain_sample : List ℕ
  pub gain_xmp : List ℕ
  pub gain_tmap : List ℕ
  pub alternate_icc : List ℕ

-- all of them, in the order of a call's parameters
abbrev pub lent : List ℕ → List ℕ → List ℕ → List ℕ → List ℕ → List ℕ → List ℕ → List ℕ → List ℕ → List ℕ → List ℕ → List ℕ → List ℕ → Lent
lent color_hvcc alpha_hvcc color_lengths alpha_lengths color_samples alpha_samples icc exif gain_hvcc gain_sample gain_xmp gain_tmap alternate_icc =
    record {
      tiles = record { hvcc = color_hvcc; lengths = color_lengths; bytes = color_samples };
      alpha = record { hvcc = alpha_hvcc; lengths = alpha_lengths; bytes = alpha_samples };
      icc = icc;
      exif = exif;
      gain_hvcc = gain_hvcc;
      gain_sample = gain_sample;
      gain_xmp = gain_xmp;
      gain_tmap = gain_tmap;
      alternate_icc = alternate_icc;
    }

-- those that the code's struct holds
abbrev pub lent_of : LentParts → Lent
lent_of p =
    record {
      tiles = tiles_of p.color;
      alpha = tiles_of p.alpha;
      icc = p.icc.now;
      exif = p.exif.now;
      gain_hvcc = p.gain_hvcc.now;
      gain_sample = p.gain_sample.now;
      gain_xmp = p.gain_xmp.now;
      gain_tmap = p.gain_tmap.now;
      alternate_icc = p.alternate_icc.now;
    }
