-- The grid of a sheet, and its end.
use Rattle.std.specs.Prelude.{[], ◌∷◌}
use Rattle.panel.specs.declared.GridDims.{GridDims}
use Rattle.sheet_fields.specs.Read.{Reader, got, stop, give, ◌then◌}
use Rattle.sheet_fields.specs.Fields.{number}

-- cols and rows of 16 bits, four sizes of 32
unfoldable pub dims : Reader GridDims
dims =
    number 2 then λ cols.
    number 2 then λ rows.
    number 4 then λ tile_w.
    number 4 then λ tile_h.
    number 4 then λ full_w.
    number 4 then λ full_h.
    give (record { cols = cols; rows = rows; tile_w = tile_w; tile_h = tile_h; full_w = full_w; full_h = full_h })

-- 14 where bytes are left over
unfoldable pub end : {A : Type 0} → A → Reader A
end a [] = got a []
end a (b ∷ rest) = stop 14
