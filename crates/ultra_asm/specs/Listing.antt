-- the canonical text of a program; this project's profile
use Rattle.std.specs.Prelude.{ℕ, ◌+◌, ◌^◌, ◌<◌, Bool, true, false, ◌==◌, List, [], ◌∷◌, ◌++◌, codes, decimal, Option, Some, None}
use Rattle.std.specs.List.{flat_map, list_any, AllByRecursion}
use Rattle.ultra_isa.specs.declared.Instr.{Instr}
use Rattle.ultra_isa.specs.declared.Instr.TheVariants.{Set, Add, AddWord, Subtract, And, ShiftRight, IsBelow, IsEqual, JumpIfZero, JumpIfNotZero, Jump, Number, Size, Load, Store, Faa, Swap, Fence, Halt}
use Rattle.ultra_asm.specs.{declared.{instruction.{Mnemonic.Mnemonic, Operand.Operand}, canonical.Operands.Operands}, Instruction.{mnemonic_word, mnemonic_of, operands_of}}
use Rattle.ultra_asm.specs.declared.instruction.Operand.TheVariants as operand
use Rattle.ultra_asm.specs.declared.canonical.Operands.TheVariants as operands
pub use Rattle.ultra_msg.specs.Bytes.{newline}

-- the label of a program counter
abbrev pub label_text : ℕ → List ℕ
label_text k = codes "L" ++ decimal k

-- the operands as a list
abbrev pub operand_list : Operands → List Operand
operand_list operands.None = []
operand_list (operands.One one) = one
operand_list (operands.Two two) = two
operand_list (operands.Three three) = three

abbrev pub operand_text : Operand → List ℕ
operand_text (operand.Register r) = codes "r" ++ decimal r
operand_text (operand.Number n) = decimal n
operand_text (operand.Bits n) = decimal n
operand_text (operand.Label k) = label_text k

-- each operand behind a blank
abbrev pub operands_text : List Operand → List ℕ
operands_text os = flat_map (λ o. codes " " ++ operand_text o) os

-- the line of an instruction, and that of a label
abbrev pub line_text : Mnemonic → List Operand → List ℕ
line_text m os = mnemonic_word m ++ (operands_text os ++ newline)

abbrev pub instruction_line : Instr → List ℕ
instruction_line i = line_text (mnemonic_of i) (operands_of i)

-- the same without its end
abbrev pub instruction_text : Instr → List ℕ
instruction_text i = mnemonic_word (mnemonic_of i) ++ operands_text (operands_of i)

abbrev pub label_line : ℕ → List ℕ
label_line k = label_text k ++ (codes ":" ++ newline)

-- where an instruction can jump to
abbrev pub jump_target : Instr → Option ℕ
jump_target (JumpIfZero a target) = Some target
jump_target (JumpIfNotZero a target) = Some target
jump_target (Jump target) = Some target
jump_target (Set d n) = None
jump_target (Add d a b) = None
jump_target (AddWord d a n) = None
jump_target (Subtract d a b) = None
jump_target (And d a b) = None
jump_target (ShiftRight d a n) = None
jump_target (IsBelow d a b) = None
jump_target (IsEqual d a b) = None
jump_target (Number d) = None
jump_target (Size d) = None
jump_target (Load d a) = None
jump_target (Store a b) = None
jump_target (Faa d a b) = None
jump_target (Swap d a b) = None
jump_target Fence = None
jump_target Halt = None

abbrev pub is_at : ℕ → Option ℕ → Bool
is_at k None = false
is_at k (Some target) = target == k

-- whether some instruction can jump to the program counter
abbrev pub is_target : List Instr → ℕ → Bool
is_target is k = list_any (λ i. is_at k (jump_target i)) is

-- the line of a label is written only where some instruction jumps to it
abbrev pub label_if : Bool → ℕ → List ℕ
label_if true k = label_line k
label_if false k = []

-- the lines from program counter k on, of a program that has these instructions left
abbrev pub listing_from : List Instr → ℕ → List Instr → List ℕ
listing_from all k [] = label_if (is_target all k) k
listing_from all k (i ∷ is) =
    label_if (is_target all k) k ++ (instruction_line i ++ listing_from all (k + 1) is)

abbrev pub listing_text : List Instr → List ℕ
listing_text is = listing_from is 0 is

-- an operand that an instruction can have
abbrev pub IsWritable : Operand → Type 0
IsWritable (operand.Register r) = r < 16
IsWritable (operand.Number n) = n < 2 ^ 32
IsWritable (operand.Bits n) = n < 32
IsWritable (operand.Label k) = k < 2 ^ 16

abbrev pub AreWritable : List Operand → Type 0
AreWritable os = AllByRecursion IsWritable os

-- the instructions of a program have such operands
abbrev pub IsListable : List Instr → Type 0
IsListable is = AllByRecursion (λ i. AreWritable (operands_of i)) is
