-- the text of a program: its grammar and its faults; this project's profile
use Rattle.std.specs.Prelude.{◌≡◌, ℕ, ◌+◌, ◌-◌, ◌<◌, ◌≤◌, ◌⊎◌, Bool, true, false, not, ◌==◌, List, [], ◌∷◌, length, filter, map, take, slice_index_or, Option, Some, None, Result, Ok, Err, IfSome, nat_le}
use Rattle.ultra_isa.specs.declared.{Instr.Instr, TheConstants.MOST_INSTRUCTIONS}
use Rattle.ultra_asm.specs.{declared.{AsmFault.AsmFault, AsmFaultKind.AsmFaultKind, instruction.{Mnemonic.Mnemonic, Operand.Operand}}, AsmFault.no_memory, Labels.{statement, label_pc, is_defined_before}}
use Rattle.ultra_asm.specs.declared.AsmFaultKind.TheVariants.{UnknownWord, BadRegister, BadNumber, UnknownLabel, DoubleLabel, TooLong, WrongOperands}
use Rattle.ultra_asm.specs.declared.instruction.Operand.TheVariants as operand
use Rattle.ultra_asm.specs.Words.{text_words, before_colon, is_name, decimal_value, register_of, shift_of}
use Rattle.ultra_asm.specs.Instruction.{mnemonic_word, mnemonic_named, mnemonic_of, operands_of, Sort, a_register, a_number, a_shift, a_label, sorts_of}

-- ---- the grammar of an instruction, in a text whose labels are at these program counters
module _ (pcs : List ℕ → Option ℕ) where
  -- the word is written for the operand
  abbrev pub IsOperand : Operand → List ℕ → Type 0
  IsOperand (operand.Register r) w = register_of w ≡ Some r
  IsOperand (operand.Number n) w = decimal_value w ≡ Some n
  IsOperand (operand.Bits n) w = shift_of w ≡ Some n
  IsOperand (operand.Label k) w = pcs w ≡ Some k

  abbrev pub AreOperands : List Operand → List (List ℕ) → Type 0
  AreOperands [] [] = Unit {0}
  AreOperands [] (w ∷ ws) = ⊥
  AreOperands (o ∷ os) [] = ⊥
  AreOperands (o ∷ os) (w ∷ ws) = IsOperand o w × AreOperands os ws

  -- the words are the instruction: its mnemonic, then its operands
  abbrev pub IsInstruction : List (List ℕ) → Instr → Type 0
  IsInstruction [] i = ⊥
  IsInstruction (w ∷ ws) i = (w ≡ mnemonic_word (mnemonic_of i)) × AreOperands (operands_of i) ws

  abbrev pub AreInstructions : List (List (List ℕ)) → List Instr → Type 0
  AreInstructions [] [] = Unit {0}
  AreInstructions [] (i ∷ is) = ⊥
  AreInstructions (s ∷ ss) [] = ⊥
  AreInstructions (s ∷ ss) (i ∷ is) = IsInstruction s i × AreInstructions ss is

-- ---- the grammar of a text, whose lines have these words
abbrev pub has_words : List (List ℕ) → Bool
has_words [] = false
has_words (w ∷ ws) = true

-- the words of those lines that have an instruction, without their labels
abbrev pub statements : List (List (List ℕ)) → List (List (List ℕ))
statements ls = filter has_words (map statement ls)

-- a word that ends with `:` at the start of line k is a label that no earlier line has
module _ (ls : List (List (List ℕ))) (k : ℕ) where
  abbrev pub IsNewLabel : List ℕ → Type 0
  IsNewLabel name = (is_name name ≡ true) × (is_defined_before ls k name ≡ false)

  abbrev pub IsLabelled : List (List ℕ) → Type 0
  IsLabelled [] = Unit {0}
  IsLabelled (w ∷ ws) = IfSome (before_colon w) IsNewLabel

abbrev pub line_at : List (List (List ℕ)) → ℕ → List (List ℕ)
line_at ls k = slice_index_or ls k []

-- these are the instructions of a text whose lines have these words
pub record AreLinesOf (ls : List (List (List ℕ))) (is : List Instr) : Type 0 where
  pub labels : (k : ℕ) → k < length ls → IsLabelled ls k (line_at ls k)
  pub instructions : AreInstructions (label_pc ls) (statements ls) is
  pub short : length is ≤ MOST_INSTRUCTIONS

-- the text is written for the program
abbrev pub IsProgramText : List ℕ → List Instr → Type 0
IsProgramText text is = AreLinesOf (text_words text) is

-- ---- faults
-- the fault where the test holds
abbrev pub fault_if : Bool → AsmFaultKind → Option AsmFaultKind
fault_if true e = Some e
fault_if false e = None

-- the fault where nothing is found
abbrev pub fault_unless : Option ℕ → AsmFaultKind → Option AsmFaultKind
fault_unless None e = Some e
fault_unless (Some n) e = None

-- the first of two faults
abbrev pub or_else : Option AsmFaultKind → Option AsmFaultKind → Option AsmFaultKind
or_else None b = b
or_else (Some e) b = Some e

module _ (pcs : List ℕ → Option ℕ) where
  abbrev pub operand_fault : Sort → List ℕ → Option AsmFaultKind
  operand_fault a_register w = fault_unless (register_of w) BadRegister
  operand_fault a_number w = fault_unless (decimal_value w) BadNumber
  operand_fault a_shift w = fault_unless (shift_of w) BadNumber
  operand_fault a_label w = fault_unless (pcs w) UnknownLabel

  -- that of the first operand that has one
  abbrev pub operands_fault : List Sort → List (List ℕ) → Option AsmFaultKind
  operands_fault [] ws = None
  operands_fault (s ∷ ss) [] = None
  operands_fault (s ∷ ss) (w ∷ ws) = or_else (operand_fault s w) (operands_fault ss ws)

  -- the number of operands comes before them
  abbrev pub fault_of_operands : List Sort → List (List ℕ) → Option AsmFaultKind
  fault_of_operands ss ws =
      or_else (fault_if (not (length ws == length ss)) WrongOperands) (operands_fault ss ws)

  -- of a word and its operands, where n instructions come before
  abbrev pub instruction_fault : ℕ → Option Mnemonic → List (List ℕ) → Option AsmFaultKind
  instruction_fault before None ws = Some UnknownWord
  instruction_fault before (Some m) ws =
      or_else (fault_if (nat_le MOST_INSTRUCTIONS before) TooLong)
      (fault_of_operands (sorts_of m) ws)

  abbrev pub statement_fault : ℕ → List (List ℕ) → Option AsmFaultKind
  statement_fault before [] = None
  statement_fault before (w ∷ ws) = instruction_fault before (mnemonic_named w) ws

-- of a word that ends with `:` at the start of line k
module _ (ls : List (List (List ℕ))) (k : ℕ) where
  abbrev pub label_fault : Option (List ℕ) → Option AsmFaultKind
  label_fault None = None
  label_fault (Some name) =
      or_else (fault_if (not (is_name name)) UnknownWord)
      (fault_if (is_defined_before ls k name) DoubleLabel)

  abbrev pub first_word_fault : List (List ℕ) → Option AsmFaultKind
  first_word_fault [] = None
  first_word_fault (w ∷ ws) = label_fault (before_colon w)

  -- of line k
  abbrev pub line_fault : Option AsmFaultKind
  line_fault =
      or_else (first_word_fault (line_at ls k))
      (statement_fault (label_pc ls) (length (statements (take k ls))) (statement (line_at ls k)))

-- the first line that has a fault, and its fault
pub record IsFirstFault (ls : List (List (List ℕ))) (f : AsmFault) : Type 0 where
  pub within : (1 ≤ f.line) × (f.line ≤ length ls)
  pub kind : line_fault ls (f.line - 1) ≡ Some f.kind
  pub first : (k : ℕ) → k + 1 < f.line → line_fault ls k ≡ None

-- why a text is refused
abbrev pub ExplainsAsmFault : List ℕ → AsmFault → Type 0
ExplainsAsmFault text f = (f ≡ no_memory) ⊎ IsFirstFault (text_words text) f

-- the result is the program, unless memory was refused
abbrev pub IsGivenBack : List Instr → Result (List Instr) AsmFault → Type 0
IsGivenBack is (Ok js) = js ≡ is
IsGivenBack is (Err f) = f ≡ no_memory
