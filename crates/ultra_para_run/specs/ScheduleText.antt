-- the text of a schedule, for a machine of `size` processing elements; this project's profile
use Rattle.std.specs.Prelude.{◌≡◌, ℕ, ◌-◌, ◌≤◌, ◌==◌, Bool, true, false, List, [], length, map, take, Option, Some, None, is_some, nat_lt, slice_index_or, if◌then◌else◌}
use Rattle.std.specs.{List.{before_first, flat_map, list_all}, Str.Parse.digits_value}
use Rattle.ultra_asm.specs.Words.{decimal_value, lines_of, words_of}

-- `#`
abbrev pub begins_schedule_comment : ℕ → Bool
begins_schedule_comment b = b == 35

-- the words of a line: what the separators leave before its comment
abbrev pub schedule_words : List ℕ → List (List ℕ)
schedule_words line = words_of (before_first begins_schedule_comment line)

-- the numbers that they write
abbrev pub line_pes : List ℕ → List ℕ
line_pes line = map (digits_value 10) (schedule_words line)

module _ (size : ℕ) where
  -- the processing element whose number a word writes
  abbrev pub if_below : Option ℕ → Option ℕ
  if_below None = None
  if_below (Some n) = if nat_lt n size then Some n else None

  abbrev pub pe_of : List ℕ → Option ℕ
  pe_of w = if_below (decimal_value w)

  -- whether each word of a line writes one
  abbrev pub are_pes : List ℕ → Bool
  are_pes line = list_all (λ w. is_some (pe_of w)) (schedule_words line)

  -- the text writes this schedule
  pub record IsScheduleText (text : List ℕ) (schedule : List ℕ) : Type 0 where
    pub words : list_all are_pes (lines_of text) ≡ true
    pub numbers : schedule ≡ flat_map line_pes (lines_of text)

  -- the first line, counted from 1, with a word that isn't a processing element's number
  pub record IsFirstBadPe (text : List ℕ) (line : ℕ) : Type 0 where
    pub within : (1 ≤ line) × (line ≤ length (lines_of text))
    pub before : list_all are_pes (take (line - 1) (lines_of text)) ≡ true
    pub bad : are_pes (slice_index_or (lines_of text) (line - 1) []) ≡ false
