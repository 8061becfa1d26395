-- the words of a condition: names, numbers and signs; this project's profile
use Rattle.std.specs.Prelude.{ℕ, Bool, not, ◌&&◌, ◌||◌, ◌==◌, List, length, min, take, drop, Option, Some, None, if◌then◌else◌, bytes_eq, nat_le, slice_index}
use Rattle.std.specs.List.{position_or_len, list_all}
use Rattle.ultra_asm.specs.Words.{is_name_byte}

-- a blank or a tab
abbrev pub is_blank : ℕ → Bool
is_blank b = (b == 32) || (b == 9)

abbrev pub is_not_blank : ℕ → Bool
is_not_blank b = not (is_blank b)

abbrev pub ends_word : ℕ → Bool
ends_word b = not (is_name_byte b)

-- `<=`, `>=`, `!=` and `..`
abbrev pub is_long_sign : ℕ → ℕ → Bool
is_long_sign b c =
    (((b == 60) || (b == 62) || (b == 33)) && (c == 61)) || ((b == 46) && (c == 46))

-- how many bytes the word has that a text begins with: letters and digits as long as they go, two
-- bytes of a long sign, or one byte
abbrev pub word_length : List ℕ → ℕ
word_length text =
    if is_name_byte (slice_index text 0) then position_or_len ends_word text
    else (if nat_le 2 (length text) && is_long_sign (slice_index text 0) (slice_index text 1)
    then 2 else min 1 (length text))

abbrev pub without_blanks : List ℕ → List ℕ
without_blanks text = drop (position_or_len is_not_blank text) text

-- the first word of a text, and what is behind it. At the text's end the word is empty
unfoldable pub word_at : List ℕ → List ℕ × List ℕ
word_at text =
    let t = without_blanks text in (take (word_length t) t, drop (word_length t) t)

-- what is behind this word, if it is the first
unfoldable pub after : List ℕ → List ℕ → Option (List ℕ)
after w text = if bytes_eq (word_at text).0 w then Some (word_at text).1 else None

-- whether there is no word more
abbrev pub is_at_end : List ℕ → Bool
is_at_end text = list_all is_blank text
