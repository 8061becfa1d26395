-- what an instruction names and what it does; this project's profile
use Rattle.std.specs.Prelude.{ℕ, ◌+◌, ◌-◌, ◌/◌, ◌%◌, ◌^◌, List, [], ◌∷◌, ◌==◌, nat_lt, Option, Some, None, slice_index, bit_and, if◌then◌else◌}
use Rattle.ultra_msg.specs.{declared.Op.Op, Act.plus}
use Rattle.ultra_msg.specs.declared.Op.TheVariants as op
use Rattle.ultra_isa.specs.declared.Instr.{Instr}
use Rattle.ultra_isa.specs.declared.Instr.TheVariants.{Set, Add, AddWord, Subtract, And, ShiftRight, IsBelow, IsEqual, JumpIfZero, JumpIfNotZero, Jump, Number, Size, Load, Store, Faa, Swap, Fence, Halt}

-- a processing element's number, how many there are, and how many cells the memory has
pub record Site : Type 0 where
  pub pe : ℕ
  pub size : ℕ
  pub all_cells : ℕ

-- the registers that an instruction reads or writes
abbrev pub names : Instr → List ℕ
names (Set d n) = d ∷ []
names (Add d a b) = d ∷ a ∷ b ∷ []
names (AddWord d a n) = d ∷ a ∷ []
names (Subtract d a b) = d ∷ a ∷ b ∷ []
names (And d a b) = d ∷ a ∷ b ∷ []
names (ShiftRight d a n) = d ∷ a ∷ []
names (IsBelow d a b) = d ∷ a ∷ b ∷ []
names (IsEqual d a b) = d ∷ a ∷ b ∷ []
names (JumpIfZero a target) = a ∷ []
names (JumpIfNotZero a target) = a ∷ []
names (Jump target) = []
names (Number d) = d ∷ []
names (Size d) = d ∷ []
names (Load d a) = d ∷ a ∷ []
names (Store a b) = a ∷ b ∷ []
names (Faa d a b) = d ∷ a ∷ b ∷ []
names (Swap d a b) = d ∷ a ∷ b ∷ []
names Fence = []
names Halt = []

-- what an instruction does. It sets a register, goes on at a program counter, refers to a cell with
-- the register for its answer, waits for the open cells, or halts
pub data Effect : Type 0 where
  sets : ℕ → ℕ → Effect
  goes_on_at : ℕ → Effect
  refers : ℕ → Op → Option ℕ → Effect
  waits : Effect
  halts : Effect

-- the difference of two words, modulo 2^32
abbrev pub minus : ℕ → ℕ → ℕ
minus v w = (v + 2 ^ 32 - w) % 2 ^ 32

-- the effect of an instruction at a program counter with these registers
abbrev pub effect : Site → List ℕ → ℕ → Instr → Effect
effect s r pc (Set d n) = sets d n
effect s r pc (Add d a b) = sets d (plus (slice_index r a) (slice_index r b))
effect s r pc (AddWord d a n) = sets d (plus (slice_index r a) n)
effect s r pc (Subtract d a b) = sets d (minus (slice_index r a) (slice_index r b))
effect s r pc (And d a b) = sets d (bit_and (slice_index r a) (slice_index r b))
effect s r pc (ShiftRight d a n) = sets d (slice_index r a / 2 ^ n)
effect s r pc (IsBelow d a b) =
    sets d (if nat_lt (slice_index r a) (slice_index r b) then 1 else 0)
effect s r pc (IsEqual d a b) = sets d (if slice_index r a == slice_index r b then 1 else 0)
effect s r pc (JumpIfZero a target) =
    goes_on_at (if slice_index r a == 0 then target else pc + 1)
effect s r pc (JumpIfNotZero a target) =
    goes_on_at (if slice_index r a == 0 then pc + 1 else target)
effect s r pc (Jump target) = goes_on_at target
effect s r pc (Number d) = sets d s.pe
effect s r pc (Size d) = sets d s.size
effect s r pc (Load d a) = refers (slice_index r a) op.Load (Some d)
effect s r pc (Store a b) = refers (slice_index r a) (op.Store (slice_index r b)) None
effect s r pc (Faa d a b) = refers (slice_index r a) (op.Faa (slice_index r b)) (Some d)
effect s r pc (Swap d a b) = refers (slice_index r a) (op.Swap (slice_index r b)) (Some d)
effect s r pc Fence = waits
effect s r pc Halt = halts
