-- 14496-12, 12.1.4: what of a picture a clean aperture shows, in exact fractions. This is the standard's meaning of the bytes; nothing here
-- cites how a clap is made.
use Rattle.std.specs.Prelude.{◌≡◌, List, ℕ, ◌*◌, ◌<◌, take, drop, ℤ, pos, ◌+ℤ◌, ◌-ℤ◌, ◌*ℤ◌}
use Rattle.std.specs.Int.{cast_signed}
use mir.Syntax.{w32}
use Rattle.octets.specs.Numbers.{value}

-- ---- fractions

pub record Fraction : Type 0 where
  pub numerator : ℤ
  pub denominator : ℕ

abbrev pub whole : ℤ → Fraction
whole z = record { numerator = z; denominator = 1 }

abbrev plus : Fraction → Fraction → Fraction
plus a b =
    record {
      numerator = a.numerator *ℤ pos b.denominator +ℤ b.numerator *ℤ pos a.denominator;
      denominator = a.denominator * b.denominator;
    }

abbrev minus : Fraction → Fraction → Fraction
minus a b =
    record {
      numerator = a.numerator *ℤ pos b.denominator -ℤ b.numerator *ℤ pos a.denominator;
      denominator = a.denominator * b.denominator;
    }

abbrev half : Fraction → Fraction
half a = record { numerator = a.numerator; denominator = 2 * a.denominator }

-- the same number, which they are only if neither divides by 0
infix 40 ◌is◌
pub record ◌is◌ (a b : Fraction) : Type 0 where
  pub defined : 0 < a.denominator
  pub defined_too : 0 < b.denominator
  pub same : a.numerator *ℤ pos b.denominator ≡ b.numerator *ℤ pos a.denominator

-- ---- the box's body: eight numbers of 32 bits, the offsets' numerators with a sign

abbrev word : ℕ → List ℕ → ℕ
word k x = value (take 4 (drop (4 * k) x))

abbrev pub clean_width : List ℕ → Fraction
clean_width x = record { numerator = pos (word 0 x); denominator = word 1 x }

abbrev pub clean_height : List ℕ → Fraction
clean_height x = record { numerator = pos (word 2 x); denominator = word 3 x }

abbrev pub horizontal_offset : List ℕ → Fraction
horizontal_offset x = record { numerator = cast_signed w32 (word 4 x); denominator = word 5 x }

abbrev pub vertical_offset : List ℕ → Fraction
vertical_offset x = record { numerator = cast_signed w32 (word 6 x); denominator = word 7 x }

-- ---- along one axis of a picture of n pixels, the first of which is 0: the centre is offset + (n - 1) / 2, and the ends of what is shown
-- lie (clean - 1) / 2 to either side of it

-- from the first of n pixels to their centre
abbrev reach : Fraction → Fraction
reach n = half (minus n (whole (pos 1)))

abbrev centre : ℕ → Fraction → Fraction
centre n offset = plus offset (reach (whole (pos n)))

abbrev pub first : ℕ → Fraction → Fraction → Fraction
first n clean offset = minus (centre n offset) (reach clean)

abbrev pub last : ℕ → Fraction → Fraction → Fraction
last n clean offset = plus (centre n offset) (reach clean)

-- ---- the outermost columns and rows that are shown of a picture so wide and so high, by the body of its clap

abbrev pub first_column : ℕ → List ℕ → Fraction
first_column width x = first width (clean_width x) (horizontal_offset x)

abbrev pub last_column : ℕ → List ℕ → Fraction
last_column width x = last width (clean_width x) (horizontal_offset x)

abbrev pub first_row : ℕ → List ℕ → Fraction
first_row height x = first height (clean_height x) (vertical_offset x)

abbrev pub last_row : ℕ → List ℕ → Fraction
last_row height x = last height (clean_height x) (vertical_offset x)
