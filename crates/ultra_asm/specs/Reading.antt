-- what the words of an instruction are read as; this project's profile
use Rattle.std.specs.Prelude.{ℕ, Bool, true, false, List, [], ◌∷◌, Option, Some, None, Result, Ok, Err, ok_or, nat_lt, if◌then◌else◌}
use Rattle.std.specs.Option.{option_map}
use Rattle.ultra_isa.specs.declared.Instr.{Instr}
use Rattle.ultra_isa.specs.declared.Instr.TheVariants as instr
use Rattle.ultra_asm.specs.{declared.{AsmFaultKind.AsmFaultKind, instruction.Mnemonic.Mnemonic, labels.Definition.Definition}, Words.{decimal_value, register_of, shift_of, before_colon, is_name}, Labels.{statement, near_pc}, Instruction.mnemonic_named}
use Rattle.ultra_asm.specs.declared.AsmFaultKind.TheVariants.{UnknownWord, BadRegister, BadNumber, UnknownLabel, DoubleLabel, TooLong, WrongOperands}
use Rattle.ultra_asm.specs.declared.instruction.Mnemonic.TheVariants.{Set, Add, AddWord, Subtract, And, ShiftRight, IsBelow, IsEqual, JumpIfZero, JumpIfNotZero, Jump, Number, Size, Load, Store, Faa, Swap, Fence, Halt}

-- the program counter of each label
abbrev pub LabelPcs : Type 0
LabelPcs = List ℕ → Option ℕ

-- one operand
abbrev pub read_register : LabelPcs → List ℕ → Result ℕ AsmFaultKind
read_register pcs w = ok_or (register_of w) BadRegister

abbrev pub read_number : LabelPcs → List ℕ → Result ℕ AsmFaultKind
read_number pcs w = ok_or (decimal_value w) BadNumber

abbrev pub read_shift : LabelPcs → List ℕ → Result ℕ AsmFaultKind
read_shift pcs w = ok_or (shift_of w) BadNumber

abbrev pub read_label : LabelPcs → List ℕ → Result ℕ AsmFaultKind
read_label pcs w = ok_or (pcs w) UnknownLabel

-- one, two or three operands: their number comes first, then the first that is wrong
abbrev pub both_operands : {A B : Type 0} → Result A AsmFaultKind → Result B AsmFaultKind
    → Result (A × B) AsmFaultKind
both_operands (Err e) b = Err e
both_operands (Ok a) (Err e) = Err e
both_operands (Ok a) (Ok b) = Ok (a, b)

abbrev pub all_three_operands : {A B C : Type 0} → Result A AsmFaultKind → Result B AsmFaultKind
    → Result C AsmFaultKind → Result (A × B × C) AsmFaultKind
all_three_operands (Err e) b c = Err e
all_three_operands (Ok a) (Err e) c = Err e
all_three_operands (Ok a) (Ok b) (Err e) = Err e
all_three_operands (Ok a) (Ok b) (Ok c) = Ok (a, b, c)

abbrev pub none_in : List (List ℕ) → Result (Unit {0}) AsmFaultKind
none_in [] = Ok tt
none_in (w ∷ ws) = Err WrongOperands

abbrev pub one_in : {A : Type 0} → (List ℕ → Result A AsmFaultKind) → List (List ℕ)
    → Result A AsmFaultKind
one_in f [] = Err WrongOperands
one_in f (a ∷ []) = f a
one_in f (a ∷ b ∷ ws) = Err WrongOperands

abbrev pub two_in : {A B : Type 0} → (List ℕ → Result A AsmFaultKind)
    → (List ℕ → Result B AsmFaultKind) → List (List ℕ) → Result (A × B) AsmFaultKind
two_in f g [] = Err WrongOperands
two_in f g (a ∷ []) = Err WrongOperands
two_in f g (a ∷ b ∷ []) = both_operands (f a) (g b)
two_in f g (a ∷ b ∷ c ∷ ws) = Err WrongOperands

abbrev pub three_in : {A B C : Type 0} → (List ℕ → Result A AsmFaultKind)
    → (List ℕ → Result B AsmFaultKind) → (List ℕ → Result C AsmFaultKind) → List (List ℕ)
    → Result (A × B × C) AsmFaultKind
three_in f g h [] = Err WrongOperands
three_in f g h (a ∷ []) = Err WrongOperands
three_in f g h (a ∷ b ∷ []) = Err WrongOperands
three_in f g h (a ∷ b ∷ c ∷ []) = all_three_operands (f a) (g b) (h c)
three_in f g h (a ∷ b ∷ c ∷ d ∷ ws) = Err WrongOperands

-- what is made of what is read
abbrev pub map_ok : {A B : Type 0} → (A → B) → Result A AsmFaultKind → Result B AsmFaultKind
map_ok f (Err e) = Err e
map_ok f (Ok a) = Ok (f a)

module _ (pcs : LabelPcs) where
  abbrev pub three_registers : List (List ℕ) → Result (ℕ × ℕ × ℕ) AsmFaultKind
  three_registers ws =
      three_in (read_register pcs) (read_register pcs) (read_register pcs) ws

  abbrev pub two_registers : List (List ℕ) → Result (ℕ × ℕ) AsmFaultKind
  two_registers ws = two_in (read_register pcs) (read_register pcs) ws

  -- an instruction of this mnemonic
  abbrev pub read_instruction : Mnemonic → List (List ℕ) → Result Instr AsmFaultKind
  read_instruction Set ws =
      map_ok (λ (t : ℕ × ℕ). instr.Set t.0 t.1) (two_in (read_register pcs) (read_number pcs) ws)
  read_instruction Add ws = map_ok (λ (t : ℕ × ℕ × ℕ). instr.Add t.0 t.1 t.2) (three_registers ws)
  read_instruction AddWord ws =
      map_ok (λ (t : ℕ × ℕ × ℕ). instr.AddWord t.0 t.1 t.2)
      (three_in (read_register pcs) (read_register pcs) (read_number pcs) ws)
  read_instruction Subtract ws =
      map_ok (λ (t : ℕ × ℕ × ℕ). instr.Subtract t.0 t.1 t.2) (three_registers ws)
  read_instruction And ws = map_ok (λ (t : ℕ × ℕ × ℕ). instr.And t.0 t.1 t.2) (three_registers ws)
  read_instruction ShiftRight ws =
      map_ok (λ (t : ℕ × ℕ × ℕ). instr.ShiftRight t.0 t.1 t.2)
      (three_in (read_register pcs) (read_register pcs) (read_shift pcs) ws)
  read_instruction IsBelow ws =
      map_ok (λ (t : ℕ × ℕ × ℕ). instr.IsBelow t.0 t.1 t.2) (three_registers ws)
  read_instruction IsEqual ws =
      map_ok (λ (t : ℕ × ℕ × ℕ). instr.IsEqual t.0 t.1 t.2) (three_registers ws)
  read_instruction JumpIfZero ws =
      map_ok (λ (t : ℕ × ℕ). instr.JumpIfZero t.0 t.1)
      (two_in (read_register pcs) (read_label pcs) ws)
  read_instruction JumpIfNotZero ws =
      map_ok (λ (t : ℕ × ℕ). instr.JumpIfNotZero t.0 t.1)
      (two_in (read_register pcs) (read_label pcs) ws)
  read_instruction Jump ws = map_ok (λ (t : ℕ). instr.Jump t) (one_in (read_label pcs) ws)
  read_instruction Number ws = map_ok (λ (t : ℕ). instr.Number t) (one_in (read_register pcs) ws)
  read_instruction Size ws = map_ok (λ (t : ℕ). instr.Size t) (one_in (read_register pcs) ws)
  read_instruction Load ws = map_ok (λ (t : ℕ × ℕ). instr.Load t.0 t.1) (two_registers ws)
  read_instruction Store ws = map_ok (λ (t : ℕ × ℕ). instr.Store t.0 t.1) (two_registers ws)
  read_instruction Faa ws = map_ok (λ (t : ℕ × ℕ × ℕ). instr.Faa t.0 t.1 t.2) (three_registers ws)
  read_instruction Swap ws = map_ok (λ (t : ℕ × ℕ × ℕ). instr.Swap t.0 t.1 t.2) (three_registers ws)
  read_instruction Fence ws = map_ok (λ t. instr.Fence) (none_in ws)
  read_instruction Halt ws = map_ok (λ t. instr.Halt) (none_in ws)

  -- where the mnemonic must be known and the program must have room for one more instruction
  abbrev pub next_instruction : Bool → Option Mnemonic → List (List ℕ) → Result Instr AsmFaultKind
  next_instruction has_room None ws = Err UnknownWord
  next_instruction false (Some m) ws = Err TooLong
  next_instruction true (Some m) ws = read_instruction m ws

  -- the instruction that the words of a line without label are, if there are any
  abbrev pub read_statement : Bool → List (List ℕ) → Result (Option Instr) AsmFaultKind
  read_statement has_room [] = Ok None
  read_statement has_room (w ∷ ws) =
      map_ok (λ i. Some i) (next_instruction has_room (mnemonic_named w) ws)

-- ---- a line, where these names are defined
-- a label must not be defined by a line before this one
abbrev pub check_definition : ℕ → Option Definition → Result (Unit {0}) AsmFaultKind
check_definition k None = Ok tt
check_definition k (Some d) = if nat_lt d.line k then Err DoubleLabel else Ok tt

abbrev pub check_name : (List ℕ → Option Definition) → ℕ → List ℕ → Result (Unit {0}) AsmFaultKind
check_name defined k name =
    if is_name name then check_definition k (defined name) else Err UnknownWord

abbrev pub check_colon : (List ℕ → Option Definition) → ℕ → Option (List ℕ)
    → Result (Unit {0}) AsmFaultKind
check_colon defined k None = Ok tt
check_colon defined k (Some name) = check_name defined k name

abbrev pub check_label : (List ℕ → Option Definition) → ℕ → List (List ℕ)
    → Result (Unit {0}) AsmFaultKind
check_label defined k [] = Ok tt
check_label defined k (w ∷ ws) = check_colon defined k (before_colon w)

abbrev pub and_then : {A : Type 0} → Result (Unit {0}) AsmFaultKind → Result A AsmFaultKind
    → Result A AsmFaultKind
and_then (Err e) r = Err e
and_then (Ok t) r = r

-- the instruction of line k, if it has one
abbrev pub read_line : (List ℕ → Option Definition) → ℕ → Bool → List (List ℕ)
    → Result (Option Instr) AsmFaultKind
read_line defined k has_room ws =
    and_then (check_label defined k ws)
    (read_statement (λ n. option_map near_pc (defined n)) has_room (statement ws))
