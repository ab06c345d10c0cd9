-- A panel: the numbers and bytes that a file is made of.
use Rattle.std.specs.Prelude.{Option, List, ℕ}
use Rattle.panel.specs.declared.GridDims.{GridDims}
use Rattle.panel.specs.declared.VisibleSize.{VisibleSize}
use Rattle.panel.specs.declared.color.Cicp.{Cicp}
use Rattle.panel.specs.declared.fmt.BitDepth.{BitDepth}
use Rattle.panel.specs.declared.metadata.ContentLightLevel.{ContentLightLevel}
use Rattle.panel.specs.declared.metadata.Orientation.{Orientation}

-- the tiles of one picture: their decoder configuration record, and their samples back to back with the length of each
pub record Tiles : Type 0 where
  pub hvcc : List ℕ
  pub lengths : List ℕ
  pub bytes : List ℕ

pub record Colour : Type 0 where
  pub cicp : Option Cicp
  pub icc : Option (List ℕ)

pub record Metadata : Type 0 where
  pub orientation : Orientation
  pub light : Option ContentLightLevel
  pub exif : Option (List ℕ)

pub record Gain : Type 0 where
  pub hvcc : List ℕ
  pub sample : List ℕ
  pub width : ℕ
  pub height : ℕ
  pub depth : BitDepth
  pub cicp : Cicp
  pub xmp : List ℕ
  pub tone : Option (List ℕ)
  pub alternate : Option Colour

pub record Panel : Type 0 where
  pub dims : GridDims
  pub visible : Option VisibleSize
  pub depth : BitDepth
  pub alpha_depth : BitDepth
  pub tiles : Tiles
  pub alpha : Tiles
  pub colour : Colour
  pub metadata : Metadata
  pub gain : Option Gain
