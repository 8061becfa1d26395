-- a line is read by its first words: the seventh, and those behind it, say no more than the sixth
use Rattle.std.proofs.Common.{◌≡◌, ℕ, suc, Bool, true, false, List, [], ◌∷◌, take, Option, Some, None, Result, refl, ap}
use Rattle.ultra_asm.specs.{declared.{AsmFaultKind.AsmFaultKind, labels.Definition.Definition, instruction.Mnemonic.Mnemonic}, Instruction.mnemonic_named}
use Rattle.ultra_asm.specs.declared.instruction.Mnemonic.TheVariants.{Set, Add, AddWord, Subtract, And, ShiftRight, IsBelow, IsEqual, JumpIfZero, JumpIfNotZero, Jump, Number, Size, Load, Store, Faa, Swap, Fence, Halt}
use Rattle.std.specs.Option.{option_map}
use Rattle.ultra_asm.specs.Labels.{line_label, after_label, instructions_on, one_or_none, near_pc, word_label}
use Rattle.ultra_asm.specs.Reading.{LabelPcs, read_register, read_number, read_shift, read_label, none_in, one_in, two_in, three_in, map_ok, read_instruction, next_instruction, read_statement, check_label, and_then, read_line}

-- ---- four operands or more are too many, whatever they are
module _ (n : ℕ) where
  abbrev few : List (List ℕ) → List (List ℕ)
  few ws = take (suc (suc (suc (suc n)))) ws

  none_few : (ws : List (List ℕ)) → none_in (few ws) ≡ none_in ws
  none_few [] = refl
  none_few (a ∷ ws) = refl

  one_few : {A : Type 0} (f : List ℕ → Result A AsmFaultKind) (ws : List (List ℕ)) → one_in f (few ws) ≡ one_in f ws
  one_few f [] = refl
  one_few f (a ∷ []) = refl
  one_few f (a ∷ b ∷ ws) = refl

  two_few : {A B : Type 0} (f : List ℕ → Result A AsmFaultKind) (g : List ℕ → Result B AsmFaultKind) (ws : List (List ℕ)) → two_in f g (few ws) ≡ two_in f g ws
  two_few f g [] = refl
  two_few f g (a ∷ []) = refl
  two_few f g (a ∷ b ∷ []) = refl
  two_few f g (a ∷ b ∷ c ∷ ws) = refl

  three_few : {A B C : Type 0} (f : List ℕ → Result A AsmFaultKind) (g : List ℕ → Result B AsmFaultKind) (h : List ℕ → Result C AsmFaultKind) (ws : List (List ℕ)) → three_in f g h (few ws) ≡ three_in f g h ws
  three_few f g h [] = refl
  three_few f g h (a ∷ []) = refl
  three_few f g h (a ∷ b ∷ []) = refl
  three_few f g h (a ∷ b ∷ c ∷ []) = refl
  three_few f g h (a ∷ b ∷ c ∷ d ∷ ws) = refl

  module _ (pcs : LabelPcs) where
    instruction_few : (m : Mnemonic) (ws : List (List ℕ)) → read_instruction pcs m (few ws) ≡ read_instruction pcs m ws
    instruction_few Set ws = ap (map_ok _) (two_few (read_register pcs) (read_number pcs) ws)
    instruction_few Add ws = ap (map_ok _) (three_few (read_register pcs) (read_register pcs) (read_register pcs) ws)
    instruction_few AddWord ws = ap (map_ok _) (three_few (read_register pcs) (read_register pcs) (read_number pcs) ws)
    instruction_few Subtract ws = ap (map_ok _) (three_few (read_register pcs) (read_register pcs) (read_register pcs) ws)
    instruction_few And ws = ap (map_ok _) (three_few (read_register pcs) (read_register pcs) (read_register pcs) ws)
    instruction_few ShiftRight ws = ap (map_ok _) (three_few (read_register pcs) (read_register pcs) (read_shift pcs) ws)
    instruction_few IsBelow ws = ap (map_ok _) (three_few (read_register pcs) (read_register pcs) (read_register pcs) ws)
    instruction_few IsEqual ws = ap (map_ok _) (three_few (read_register pcs) (read_register pcs) (read_register pcs) ws)
    instruction_few JumpIfZero ws = ap (map_ok _) (two_few (read_register pcs) (read_label pcs) ws)
    instruction_few JumpIfNotZero ws = ap (map_ok _) (two_few (read_register pcs) (read_label pcs) ws)
    instruction_few Jump ws = ap (map_ok _) (one_few (read_label pcs) ws)
    instruction_few Number ws = ap (map_ok _) (one_few (read_register pcs) ws)
    instruction_few Size ws = ap (map_ok _) (one_few (read_register pcs) ws)
    instruction_few Load ws = ap (map_ok _) (two_few (read_register pcs) (read_register pcs) ws)
    instruction_few Store ws = ap (map_ok _) (two_few (read_register pcs) (read_register pcs) ws)
    instruction_few Faa ws = ap (map_ok _) (three_few (read_register pcs) (read_register pcs) (read_register pcs) ws)
    instruction_few Swap ws = ap (map_ok _) (three_few (read_register pcs) (read_register pcs) (read_register pcs) ws)
    instruction_few Fence ws = ap (map_ok _) (none_few ws)
    instruction_few Halt ws = ap (map_ok _) (none_few ws)

    next_few : (room : Bool) (o : Option Mnemonic) (ws : List (List ℕ)) → next_instruction pcs room o (few ws) ≡ next_instruction pcs room o ws
    next_few room None ws = refl
    next_few false (Some m) ws = refl
    next_few true (Some m) ws = instruction_few m ws

    statement_few : (room : Bool) (ws : List (List ℕ)) → read_statement pcs room (take (suc (suc (suc (suc (suc n))))) ws) ≡ read_statement pcs room ws
    statement_few room [] = refl
    statement_few room (w ∷ ws) = ap (map_ok _) (next_few room (mnemonic_named w) ws)

-- ---- a line
module _ (pcs : LabelPcs) (room : Bool) where
  behind_few : (label : Option (List ℕ)) (w : List ℕ) (ws : List (List ℕ)) → read_statement pcs room (after_label label (take 6 (w ∷ ws))) ≡ read_statement pcs room (after_label label (w ∷ ws))
  behind_few None w ws = statement_few 1 pcs room (w ∷ ws)
  behind_few (Some name) w ws = statement_few 0 pcs room ws

pub line_few : (defined : List ℕ → Option Definition) (k : ℕ) (room : Bool) (ws : List (List ℕ)) → read_line defined k room (take 6 ws) ≡ read_line defined k room ws
line_few defined k room [] = refl
line_few defined k room (w ∷ ws) = ap (and_then (check_label defined k (w ∷ ws))) (behind_few (λ name. option_map near_pc (defined name)) room (word_label w) w ws)

pub label_few : (ws : List (List ℕ)) → line_label (take 6 ws) ≡ line_label ws
label_few [] = refl
label_few (w ∷ ws) = refl

count_behind : (label : Option (List ℕ)) (w : List ℕ) (ws : List (List ℕ)) → one_or_none (after_label label (take 6 (w ∷ ws))) ≡ one_or_none (after_label label (w ∷ ws))
count_behind None w ws = refl
count_behind (Some name) w [] = refl
count_behind (Some name) w (v ∷ ws) = refl

pub count_few : (ws : List (List ℕ)) → instructions_on (take 6 ws) ≡ instructions_on ws
count_few [] = refl
count_few (w ∷ ws) = count_behind (word_label w) w ws
