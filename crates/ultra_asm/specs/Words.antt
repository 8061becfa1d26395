-- lines and their words: names, numbers and registers; this project's profile
use Rattle.std.specs.Prelude.{ℕ, ◌-◌, Bool, not, ◌&&◌, ◌||◌, ◌==◌, List, length, filter, map, Option, Some, None, if◌then◌else◌, drop, take, nat_lt, nat_le, slice_index}
use Rattle.std.specs.{Str.Parse.digits_value, List.{slice_split, before_first, list_all}}
pub use Rattle.ultra_io.specs.Decimal.{is_number, decimal_value, has_leading_zero}

-- a blank, a tab, byte 13 or a comma
abbrev pub is_separator : ℕ → Bool
is_separator b = (b == 32) || (b == 9) || (b == 13) || (b == 44)

-- `;` or `#`
abbrev pub begins_comment : ℕ → Bool
begins_comment b = (b == 59) || (b == 35)

-- what the separators leave of a line without comment
abbrev pub words_of : List ℕ → List (List ℕ)
words_of code = filter (λ w. not (length w == 0)) (slice_split is_separator code)

-- the words of a line: what its separators leave of what is before the comment
abbrev pub line_words : List ℕ → List (List ℕ)
line_words line = words_of (before_first begins_comment line)

-- the lines of a text, which byte 10 ends
abbrev pub lines_of : List ℕ → List (List ℕ)
lines_of text = slice_split (λ b. b == 10) text

-- the words of each line of a text
abbrev pub text_words : List ℕ → List (List (List ℕ))
text_words text = map line_words (lines_of text)

-- `A` to `Z`, `a` to `z` or `_`
abbrev pub is_letter : ℕ → Bool
is_letter b = (nat_le 65 b && nat_le b 90) || (nat_le 97 b && nat_le b 122) || (b == 95)

-- a letter or a digit
abbrev pub is_name_byte : ℕ → Bool
is_name_byte b = is_letter b || (nat_le 48 b && nat_le b 57)

-- a name has 1 to 32 bytes, first a letter, then letters or digits
abbrev pub is_name : List ℕ → Bool
is_name w =
    nat_lt 0 (length w) && nat_le (length w) 32 && is_letter (slice_index w 0)
    && list_all is_name_byte w

-- what is before the `:` at a word's end, if there is one
abbrev pub before_colon : List ℕ → Option (List ℕ)
before_colon w =
    if nat_lt 0 (length w) && (slice_index w (length w - 1) == 58)
    then Some (take (length w - 1) w) else None

-- a register is written as `r` and its number, from 0 to 15, without leading zero
abbrev pub is_register : List ℕ → Bool
is_register w =
    (slice_index w 0 == 114) && not (has_leading_zero (drop 1 w)) && is_number (drop 1 w)
    && nat_lt (digits_value 10 (drop 1 w)) 16

abbrev pub register_of : List ℕ → Option ℕ
register_of w = if is_register w then Some (digits_value 10 (drop 1 w)) else None

-- by how many bits a word is shifted is written as a number from 0 to 31
abbrev pub shift_of : List ℕ → Option ℕ
shift_of w = if is_number w && nat_lt (digits_value 10 w) 32 then Some (digits_value 10 w) else None
