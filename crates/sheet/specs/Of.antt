-- The pictures that the code's tiles stand for.
use Rattle.panel.specs.Of.{tiles_of}
use Rattle.panel.specs.declared.Tiles.{Tiles}
use Rattle.sheet.specs.Sheet.{Pictures}

-- of the colour's and alpha's
abbrev pub pictures_of : Tiles × Tiles → Pictures
pictures_of t = record { colour = tiles_of t.0; alpha = tiles_of t.1 }
