-- The numbers of a panel that are no codes: its tile grid, its visible size, and its light level.
use Rattle.panel.specs.declared.GridDims.{GridDims}
use Rattle.panel.specs.declared.VisibleSize.{VisibleSize}
use Rattle.panel.specs.declared.metadata.ContentLightLevel.{ContentLightLevel}
use Rattle.c_types.specs.declared.PanelCodes.{PanelCodes}

abbrev pub dims_value : PanelCodes → GridDims
dims_value c = record { cols = c.cols; rows = c.rows; tile_w = c.tile_w; tile_h = c.tile_h; full_w = c.full_w; full_h = c.full_h }

abbrev pub visible_value : PanelCodes → VisibleSize
visible_value c = record { w = c.visible_w; h = c.visible_h }

abbrev pub light_value : PanelCodes → ContentLightLevel
light_value c = record { max_content_light_level = c.max_content_light_level; max_pic_average_light_level = c.max_pic_average_light_level }
