-- The tile lookup: why an item id is refused, which bytes are its tile's payload, and where among the lent bytes they lie.
use Rattle.std.specs.Prelude.{Bool, true, false, ◌&&◌, ◌||◌, not, cond, List, [], ◌∷◌, ℕ, zero, suc, ◌+◌, ◌*◌, ◌-◌, leb, ltb, eqb, length, take, get_or, Result, Ok, Err}
use Rattle.octets.specs.Numbers.{total}
use Rattle.heif.specs.Mdat.{samples}
use Rattle.heif.specs.Refusal.{Check, check, first, differ}
use Rattle.plan_tile.specs.declared.TileSpan.{TileSpan}

-- of n tiles a picture, the colour tiles have the ids 1 to n, and the alpha tiles n + 2 to 2n + 1
abbrev pub names_colour : ℕ → ℕ → Bool
names_colour n id = leb 1 id && leb id n

abbrev pub names_alpha : ℕ → ℕ → Bool
names_alpha n id = leb (n + 2) id && leb id (2 * n + 1)

-- the lists differ in count, or are empty
abbrev pub bad_lists : ℕ → ℕ → Bool
bad_lists colours alphas = differ colours alphas || eqb colours 0

-- the alpha grid's id is above 65,535
abbrev pub too_many : ℕ → Bool
too_many n = ltb 65535 (2 * n + 2)

-- the lists of lengths and the bytes that are lent, colour and alpha
pub record LentTiles : Type 0 where
  pub colours : List ℕ
  pub alphas : List ℕ
  pub colour_bytes : List ℕ
  pub alpha_bytes : List ℕ

unfoldable pub lent_tiles : List ℕ → List ℕ → List ℕ → List ℕ → LentTiles
lent_tiles colours alphas colour_bytes alpha_bytes = record { colours = colours; alphas = alphas; colour_bytes = colour_bytes; alpha_bytes = alpha_bytes }

abbrev pub tile_checks : ℕ → LentTiles → List Check
tile_checks id p =
    let n = length p.colours in
    check 2 (λ _. bad_lists n (length p.alphas))
    ∷ check 3 (λ _. differ (total p.colours) (length p.colour_bytes) || differ (total p.alphas) (length p.alpha_bytes))
    ∷ check 4 (λ _. too_many n)
    ∷ check 7 (λ _. not (names_colour n id || names_alpha n id))
    ∷ []

-- the number of the first check that holds, or 0
unfoldable pub tile_refusal : ℕ → LentTiles → ℕ
tile_refusal id p = first (tile_checks id p)

-- which tile of its picture an id names, counted from 0
abbrev pub colour_index : ℕ → ℕ
colour_index id = id - 1

abbrev pub alpha_index : ℕ → ℕ → ℕ
alpha_index n id = id - (n + 2)

-- the payload of tile k, as the file has it
abbrev pub sample : List ℕ → List ℕ → ℕ → List ℕ
sample lengths bytes k = get_or (samples lengths bytes) k []

-- the one where the number of a refusal is 0, else the other
abbrev pub accepted_or : {A : Type 0} → ℕ → A → A → A
accepted_or zero x y = x
accepted_or (suc k) x y = y

-- the payload of the tile that an id names; empty where it is refused
unfoldable pub tile_bytes : ℕ → LentTiles → List ℕ
tile_bytes id p =
    let n = length p.colours in
    let colour = sample p.colours p.colour_bytes (colour_index id) in
    let alpha = sample p.alphas p.alpha_bytes (alpha_index n id) in
    accepted_or (tile_refusal id p) (cond (names_colour n id) colour alpha) []

-- ---- where that payload lies

-- tile k of a picture: in which picture's bytes, from where on, and how many
abbrev pub span_of : Bool → List ℕ → ℕ → TileSpan
span_of alpha lengths k = record { alpha = alpha; start = total (take k lengths); size = get_or lengths k 0 }

-- the span of the tile that an id names, or the number of the refusal
unfoldable pub tile_span : ℕ → LentTiles → Result TileSpan ℕ
tile_span id p =
    let n = length p.colours in
    let colour = span_of false p.colours (colour_index id) in
    let alpha = span_of true p.alphas (alpha_index n id) in
    accepted_or (tile_refusal id p) (Ok (cond (names_colour n id) colour alpha)) (Err (tile_refusal id p))

-- where bytes are lent: the block that holds them, and their offset in it
abbrev pub Address : Type 0
Address = ℕ × ℕ

-- where the part that is answered lies, of colour bytes and alpha bytes that are lent there: at the span, and where there is none, at the
-- first colour byte
abbrev pub span_address : Result TileSpan ℕ → Address → Address → Address
span_address (Ok s) colour alpha = let a = cond s.alpha alpha colour in (a.0, s.start + a.1)
span_address (Err k) colour alpha = colour
