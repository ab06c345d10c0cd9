-- The fields of a sheet: runs of bytes, numbers, byte strings, codes, lists of lengths, and a field that may be left out.
use Rattle.std.specs.Prelude.{Bool, true, false, cond, List, [], ◌∷◌, ℕ, zero, suc, ◌*◌, ltb, length, take, drop, Option, None, Some}
use Rattle.octets.specs.Numbers.{value}
use Rattle.sheet_fields.specs.Read.{Reader, got, stop, give, refuse, ◌then◌}

-- the next n bytes; 11 where the sheet ends before them
unfoldable pub bytes : ℕ → Reader (List ℕ)
bytes n s = cond (ltb (length s) n) (stop 11) (got (take n s) (drop n s))

-- a number of k bytes
unfoldable pub number : ℕ → Reader ℕ
number k = bytes k then λ x. give (value x)

-- a byte string: a length of 32 bits, and so many bytes
unfoldable pub string : Reader (List ℕ)
string = number 4 then bytes

-- n numbers of 32 bits each
abbrev pub words : ℕ → List ℕ → List ℕ
words zero x = []
words (suc n) x = value (take 4 x) ∷ words n (drop 4 x)

-- n lengths of 32 bits
unfoldable pub lengths : ℕ → Reader (List ℕ)
lengths n = bytes (4 * n) then λ x. give (words n x)

-- 13 where a code names nothing
abbrev pub known : {A : Type 0} → Option A → Reader A
known None = refuse 13
known (Some a) = give a

-- a code of k bytes
abbrev pub coded : {A : Type 0} → ℕ → (ℕ → Option A) → Reader A
coded k named = number k then λ n. known (named n)

-- a field that is there only if its bit stands
unfoldable pub optional : {A : Type 0} → Bool → Reader A → Reader (Option A)
optional true f = f then λ a. give (Some a)
optional false f = give None
