-- numbers that decimal digits write
use Rattle.std.specs.Prelude.{ℕ, ◌^◌, Bool, ◌&&◌, ◌==◌, List, length, Option, Some, None, if◌then◌else◌, nat_lt, slice_index}
use Rattle.std.specs.Str.{all_ascii_digits, Parse.digits_value}

-- a number is written as one decimal digit or more, and is below 2^32
abbrev pub is_number : List ℕ → Bool
is_number w = nat_lt 0 (length w) && all_ascii_digits w && nat_lt (digits_value 10 w) (2 ^ 32)

abbrev pub decimal_value : List ℕ → Option ℕ
decimal_value w = if is_number w then Some (digits_value 10 w) else None

-- a zero with more bytes behind it
abbrev pub has_leading_zero : List ℕ → Bool
has_leading_zero w = nat_lt 1 (length w) && (slice_index w 0 == 48)

-- the number that digits without leading zero write
abbrev pub plain_number : List ℕ → Option ℕ
plain_number w = if has_leading_zero w then None else decimal_value w
