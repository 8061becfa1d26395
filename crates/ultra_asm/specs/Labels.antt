-- the labels of a text, and what each of its lines does besides; this project's profile
use Rattle.std.specs.Prelude.{ℕ, ◌+◌, Bool, false, List, [], ◌∷◌, drop, take, Option, Some, None, is_some, if◌then◌else◌, bytes_eq, min}
use Rattle.std.specs.Option.{option_map}
use Rattle.ultra_asm.specs.{Words.{before_colon, is_name}, declared.labels.Definition.Definition}
use Rattle.ultra_isa.specs.declared.TheConstants.{MOST_INSTRUCTIONS}

-- a label's word is a name followed directly by `:`
abbrev pub if_name : Option (List ℕ) → Option (List ℕ)
if_name None = None
if_name (Some n) = if is_name n then Some n else None

abbrev pub word_label : List ℕ → Option (List ℕ)
word_label w = if_name (before_colon w)

-- the label of a line, which is given by its words
abbrev pub line_label : List (List ℕ) → Option (List ℕ)
line_label [] = None
line_label (w ∷ ws) = word_label w

-- the words of its instruction, if it has one
abbrev pub after_label : Option (List ℕ) → List (List ℕ) → List (List ℕ)
after_label None ws = ws
after_label (Some n) ws = drop 1 ws

abbrev pub statement : List (List ℕ) → List (List ℕ)
statement ws = after_label (line_label ws) ws

-- how many instructions a line has, one or none
abbrev pub one_or_none : List (List ℕ) → ℕ
one_or_none [] = 0
one_or_none (w ∷ ws) = 1

abbrev pub instructions_on : List (List ℕ) → ℕ
instructions_on ws = one_or_none (statement ws)

-- whether a line's label is this name
abbrev pub is_label_named : Option (List ℕ) → List ℕ → Bool
is_label_named None name = false
is_label_named (Some n) name = bytes_eq n name

abbrev pub defines : List (List ℕ) → List ℕ → Bool
defines ws name = is_label_named (line_label ws) name

-- the first line that defines a name, and the program counter of the next instruction, counted from
-- these numbers
abbrev pub definition_from : ℕ → ℕ → List (List (List ℕ)) → List ℕ → Option Definition
definition_from line pc [] name = None
definition_from line pc (ws ∷ ls) name =
    if defines ws name then Some (record { line = line; pc = pc })
    else definition_from (line + 1) (pc + instructions_on ws) ls name

abbrev pub definition_of : List (List (List ℕ)) → List ℕ → Option Definition
definition_of ls name = definition_from 0 0 ls name

-- the program counter that a label names
abbrev pub label_pc : List (List (List ℕ)) → List ℕ → Option ℕ
label_pc ls name = option_map (λ d. d.pc) (definition_of ls name)

-- whether a line before line k defines the name
abbrev pub is_defined_before : List (List (List ℕ)) → ℕ → List ℕ → Bool
is_defined_before ls k name = is_some (definition_of (take k ls) name)

-- the same program counters, where one above 4096 counts as 4096: a program that has it is too long
abbrev pub near_pc : Definition → ℕ
near_pc d = min d.pc MOST_INSTRUCTIONS

abbrev pub near_pc_of : List (List (List ℕ)) → List ℕ → Option ℕ
near_pc_of ls name = option_map near_pc (definition_of ls name)

-- the same definitions, with these program counters
abbrev pub near_definition : Definition → Definition
near_definition d = record { line = d.line; pc = near_pc d }

abbrev pub near_definition_of : List (List (List ℕ)) → List ℕ → Option Definition
near_definition_of ls name = option_map near_definition (definition_of ls name)
