-- Numbers among the words.
use Rattle.std.specs.Prelude.{ℕ, ℤ, Bool, ◌&&◌, List, length, Option, Some, None, ◌==◌, nat_le, nat_lt, not, codes, if◌then◌else◌, slice_index, drop, option_and_then}
use Rattle.std.specs.List.{list_all, starts_with}
use Rattle.std.specs.Char.{is_ascii_digit}
use Rattle.rh_text.specs.Pieces.{decimal_value}
use Rattle.rh_text.specs.Decimal.{up_to_limit, signed}

-- one to so many digits
abbrev pub is_number : ℕ → List ℕ → Bool
is_number most text = (nat_le 1 (length text) && nat_le (length text) most) && list_all is_ascii_digit text

-- the number that one to so many digits stand for, where it is at most 2 ^ 63
unfoldable pub digits_up_to : ℕ → List ℕ → Option ℕ
digits_up_to most text = if is_number most text then up_to_limit (decimal_value text) else None

-- the number that one to seven digits stand for
abbrev pub small_number : List ℕ → Option ℕ
small_number text = digits_up_to 7 text

-- whether the word begins with `-`
abbrev pub is_negative : List ℕ → Bool
is_negative text = slice_index text 0 == 45

-- the word without the `-` with which it begins
abbrev pub without_sign : List ℕ → List ℕ
without_sign text = if is_negative text then drop 1 text else text

-- the i64 that an optional `-` and one to nineteen digits stand for
unfoldable pub argument : List ℕ → Option ℤ
argument text = option_and_then (signed (is_negative text)) (digits_up_to 19 (without_sign text))

-- the number after a front, where the word begins with it
unfoldable pub number_after : List ℕ → List ℕ → Option ℕ
number_after front word = if starts_with (λ a b. a == b) word front then small_number (drop (length front) word) else None

-- the number, where it lies in a range
abbrev pub within : ℕ → ℕ → Option ℕ → Option ℕ
within low high None = None
within low high (Some n) = if nat_le low n && nat_le n high then Some n else None

-- the number of `--workers=N`
abbrev pub workers_of : List ℕ → Option ℕ
workers_of word = within 1 16 (number_after (codes "--workers=") word)

-- the number of `--steps=N`
abbrev pub steps_of : List ℕ → Option ℕ
steps_of word = within 0 1000000 (number_after (codes "--steps=") word)

-- how many procedures to make
abbrev pub count_of : List ℕ → Option ℕ
count_of word = within 0 255 (small_number word)

-- not empty, and with no `-` in front
abbrev pub is_file_name : List ℕ → Bool
is_file_name word = nat_lt 0 (length word) && not (is_negative word)
