-- which lists of instructions are programs; this project's profile
use Rattle.std.specs.Prelude.{ℕ, List, Bool, true, ◌&&◌, nat_le, length}
use Rattle.std.specs.List.{list_all}
use Rattle.ultra_isa.specs.declared.{Instr.Instr, TheConstants.MOST_INSTRUCTIONS}
use Rattle.ultra_isa.specs.declared.Instr.TheVariants.{Set, Add, AddWord, Subtract, And, ShiftRight, IsBelow, IsEqual, JumpIfZero, JumpIfNotZero, Jump, Number, Size, Load, Store, Faa, Swap, Fence, Halt}

-- whether an instruction, if it can jump, jumps to an index that is at most the program's length
abbrev pub jumps_within : ℕ → Instr → Bool
jumps_within n (JumpIfZero a target) = nat_le target n
jumps_within n (JumpIfNotZero a target) = nat_le target n
jumps_within n (Jump target) = nat_le target n
jumps_within n (Set d w) = true
jumps_within n (Add d a b) = true
jumps_within n (AddWord d a w) = true
jumps_within n (Subtract d a b) = true
jumps_within n (And d a b) = true
jumps_within n (ShiftRight d a k) = true
jumps_within n (IsBelow d a b) = true
jumps_within n (IsEqual d a b) = true
jumps_within n (Number d) = true
jumps_within n (Size d) = true
jumps_within n (Load d a) = true
jumps_within n (Store a b) = true
jumps_within n (Faa d a b) = true
jumps_within n (Swap d a b) = true
jumps_within n Fence = true
jumps_within n Halt = true

abbrev pub all_jump_within : ℕ → List Instr → Bool
all_jump_within n is = list_all (λ i. jumps_within n i) is

-- at most 4096 instructions, all of whose jumps are within
abbrev pub is_program : List Instr → Bool
is_program is = nat_le (length is) MOST_INSTRUCTIONS && all_jump_within (length is) is
