-- the words of an instruction: its mnemonic and its operands; this project's profile
use Rattle.std.specs.Prelude.{ℕ, List, [], ◌∷◌, codes, Option, bytes_eq}
use Rattle.std.specs.List.{find}
use Rattle.ultra_isa.specs.declared.Instr.{Instr}
use Rattle.ultra_isa.specs.declared.Instr.TheVariants as instr
use Rattle.ultra_asm.specs.declared.instruction.{Mnemonic.Mnemonic, Operand.Operand}
use Rattle.ultra_asm.specs.declared.instruction.Mnemonic.TheVariants.{Set, Add, AddWord, Subtract, And, ShiftRight, IsBelow, IsEqual, JumpIfZero, JumpIfNotZero, Jump, Number, Size, Load, Store, Faa, Swap, Fence, Halt}
use Rattle.ultra_asm.specs.declared.instruction.Operand.TheVariants as operand

abbrev pub mnemonics : List Mnemonic
mnemonics =
    Set ∷ Add ∷ AddWord ∷ Subtract ∷ And ∷ ShiftRight ∷ IsBelow ∷ IsEqual ∷ JumpIfZero
    ∷ JumpIfNotZero ∷ Jump ∷ Number ∷ Size ∷ Load ∷ Store ∷ Faa ∷ Swap ∷ Fence ∷ Halt ∷ []

-- the word that each instruction begins with
abbrev pub mnemonic_word : Mnemonic → List ℕ
mnemonic_word Set = codes "li"
mnemonic_word Add = codes "add"
mnemonic_word AddWord = codes "addi"
mnemonic_word Subtract = codes "sub"
mnemonic_word And = codes "and"
mnemonic_word ShiftRight = codes "shr"
mnemonic_word IsBelow = codes "slt"
mnemonic_word IsEqual = codes "seq"
mnemonic_word JumpIfZero = codes "jz"
mnemonic_word JumpIfNotZero = codes "jnz"
mnemonic_word Jump = codes "jmp"
mnemonic_word Number = codes "pid"
mnemonic_word Size = codes "np"
mnemonic_word Load = codes "ld"
mnemonic_word Store = codes "st"
mnemonic_word Faa = codes "faa"
mnemonic_word Swap = codes "swap"
mnemonic_word Fence = codes "fence"
mnemonic_word Halt = codes "halt"

-- the mnemonic of a word
abbrev pub mnemonic_named : List ℕ → Option Mnemonic
mnemonic_named w = find (λ m. bytes_eq (mnemonic_word m) w) mnemonics

abbrev pub mnemonic_of : Instr → Mnemonic
mnemonic_of (instr.Set d n) = Set
mnemonic_of (instr.Add d a b) = Add
mnemonic_of (instr.AddWord d a n) = AddWord
mnemonic_of (instr.Subtract d a b) = Subtract
mnemonic_of (instr.And d a b) = And
mnemonic_of (instr.ShiftRight d a n) = ShiftRight
mnemonic_of (instr.IsBelow d a b) = IsBelow
mnemonic_of (instr.IsEqual d a b) = IsEqual
mnemonic_of (instr.JumpIfZero a target) = JumpIfZero
mnemonic_of (instr.JumpIfNotZero a target) = JumpIfNotZero
mnemonic_of (instr.Jump target) = Jump
mnemonic_of (instr.Number d) = Number
mnemonic_of (instr.Size d) = Size
mnemonic_of (instr.Load d a) = Load
mnemonic_of (instr.Store a b) = Store
mnemonic_of (instr.Faa d a b) = Faa
mnemonic_of (instr.Swap d a b) = Swap
mnemonic_of instr.Fence = Fence
mnemonic_of instr.Halt = Halt

-- its operands, in the order in which they are written
abbrev pub operands_of : Instr → List Operand
operands_of (instr.Set d n) = operand.Register d ∷ operand.Number n ∷ []
operands_of (instr.Add d a b) = operand.Register d ∷ operand.Register a ∷ operand.Register b ∷ []
operands_of (instr.AddWord d a n) = operand.Register d ∷ operand.Register a ∷ operand.Number n ∷ []
operands_of (instr.Subtract d a b) =
    operand.Register d ∷ operand.Register a ∷ operand.Register b ∷ []
operands_of (instr.And d a b) = operand.Register d ∷ operand.Register a ∷ operand.Register b ∷ []
operands_of (instr.ShiftRight d a n) = operand.Register d ∷ operand.Register a ∷ operand.Bits n ∷ []
operands_of (instr.IsBelow d a b) =
    operand.Register d ∷ operand.Register a ∷ operand.Register b ∷ []
operands_of (instr.IsEqual d a b) =
    operand.Register d ∷ operand.Register a ∷ operand.Register b ∷ []
operands_of (instr.JumpIfZero a target) = operand.Register a ∷ operand.Label target ∷ []
operands_of (instr.JumpIfNotZero a target) = operand.Register a ∷ operand.Label target ∷ []
operands_of (instr.Jump target) = operand.Label target ∷ []
operands_of (instr.Number d) = operand.Register d ∷ []
operands_of (instr.Size d) = operand.Register d ∷ []
operands_of (instr.Load d a) = operand.Register d ∷ operand.Register a ∷ []
operands_of (instr.Store a b) = operand.Register a ∷ operand.Register b ∷ []
operands_of (instr.Faa d a b) = operand.Register d ∷ operand.Register a ∷ operand.Register b ∷ []
operands_of (instr.Swap d a b) = operand.Register d ∷ operand.Register a ∷ operand.Register b ∷ []
operands_of instr.Fence = []
operands_of instr.Halt = []

-- what an operand is: a register, a number, by how many bits to shift, or a label
pub data Sort : Type 0 where
  a_register : Sort
  a_number : Sort
  a_shift : Sort
  a_label : Sort

-- the operands that each instruction wants
abbrev pub sorts_of : Mnemonic → List Sort
sorts_of Set = a_register ∷ a_number ∷ []
sorts_of Add = a_register ∷ a_register ∷ a_register ∷ []
sorts_of AddWord = a_register ∷ a_register ∷ a_number ∷ []
sorts_of Subtract = a_register ∷ a_register ∷ a_register ∷ []
sorts_of And = a_register ∷ a_register ∷ a_register ∷ []
sorts_of ShiftRight = a_register ∷ a_register ∷ a_shift ∷ []
sorts_of IsBelow = a_register ∷ a_register ∷ a_register ∷ []
sorts_of IsEqual = a_register ∷ a_register ∷ a_register ∷ []
sorts_of JumpIfZero = a_register ∷ a_label ∷ []
sorts_of JumpIfNotZero = a_register ∷ a_label ∷ []
sorts_of Jump = a_label ∷ []
sorts_of Number = a_register ∷ []
sorts_of Size = a_register ∷ []
sorts_of Load = a_register ∷ a_register ∷ []
sorts_of Store = a_register ∷ a_register ∷ []
sorts_of Faa = a_register ∷ a_register ∷ a_register ∷ []
sorts_of Swap = a_register ∷ a_register ∷ a_register ∷ []
sorts_of Fence = []
sorts_of Halt = []
