-- The widths of a panel's fields: 32 bits for a size, 16 for a light level. The checks bound its other numbers.
use Rattle.std.specs.Prelude.{Option, None, Some, ◌^◌, ◌<◌}
use Rattle.panel.specs.Panel.{Gain, Panel}
use Rattle.panel.specs.declared.GridDims.{GridDims}
use Rattle.panel.specs.declared.VisibleSize.{VisibleSize}
use Rattle.panel.specs.declared.metadata.ContentLightLevel.{ContentLightLevel}

-- P of what is present
abbrev pub Of : {A : Type 0} → (A → Type 0) → Option A → Type 0
Of P None = Unit {0}
Of P (Some a) = P a

pub record LightFits (l : ContentLightLevel) : Type 0 where
  pub content : l.max_content_light_level < 2 ^ 16
  pub average : l.max_pic_average_light_level < 2 ^ 16

pub record GainFits (g : Gain) : Type 0 where
  pub width : g.width < 2 ^ 32
  pub height : g.height < 2 ^ 32

pub record DimsFit (d : GridDims) : Type 0 where
  pub tile_w : d.tile_w < 2 ^ 32
  pub tile_h : d.tile_h < 2 ^ 32
  pub full_w : d.full_w < 2 ^ 32
  pub full_h : d.full_h < 2 ^ 32

pub record VisibleFits (v : VisibleSize) : Type 0 where
  pub w : v.w < 2 ^ 32
  pub h : v.h < 2 ^ 32

pub record Fits (p : Panel) : Type 0 where
  pub dims : DimsFit p.dims
  pub visible : Of VisibleFits p.visible
  pub light : Of LightFits p.metadata.light
  pub gain : Of GainFits p.gain
