-- The panels that a sheet can say.
use Rattle.std.specs.Prelude.{◌≡◌, ℕ, ◌*◌, ◌^◌, ◌≤◌, ◌<◌, length, None}
use Rattle.octets.specs.Numbers.{total}
use Rattle.panel.specs.Panel.{Tiles, Gain, Panel}
use Rattle.panel.specs.Agreement.{shown}
use Rattle.panel.specs.Widths.{Of, Fits}
use Rattle.sheet_bytes.specs.Bytes.{sheet_bytes}

-- n lengths, which sum to the bytes
pub record Tiled (n : ℕ) (t : Tiles) : Type 0 where
  pub count : length t.lengths ≡ n
  pub sum : total t.lengths ≡ length t.bytes

-- no alternate colour that is empty or has no tone map
pub record Shown (g : Gain) : Type 0 where
  pub same : shown g.tone g.alternate ≡ g.alternate

-- sides of 16 bits, no visible size, sizes and light levels within their widths, and a sheet of at most 12,288 bytes
pub record Sayable (p : Panel) : Type 0 where
  pub cols : p.dims.cols < 2 ^ 16
  pub rows : p.dims.rows < 2 ^ 16
  pub visible : p.visible ≡ None
  pub fits : Fits p
  pub colour : Tiled (p.dims.rows * p.dims.cols) p.tiles
  pub alpha : Tiled (p.dims.rows * p.dims.cols) p.alpha
  pub alternate : Of Shown p.gain
  pub short : length (sheet_bytes p) ≤ 12288
