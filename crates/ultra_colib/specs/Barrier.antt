-- the barrier: nobody has finished more rounds than anybody has begun
use Rattle.std.specs.Prelude.{ℕ, ◌+◌, ◌<◌, ◌≤◌, List, [], ◌∷◌}
use Rattle.ultra_isa.specs.declared.Instr.{Instr}
use Rattle.ultra_isa.specs.declared.Instr.TheVariants.{Set, Add, AddWord, Subtract, And, IsBelow, IsEqual, JumpIfZero, JumpIfNotZero, Number, Size, Load, Store, Faa, Fence, Halt}
use Rattle.ultra_colib.specs.Schedules.{CellWords, IsKeptBySchedules}

-- cell 0 counts the arrivals, cell 8 + p the rounds that processing element p has begun, cell 8 + N
-- + p those that it has finished
abbrev pub barrier : ℕ → List Instr
barrier rounds =
    Number 1 ∷ AddWord 2 1 8 ∷ Size 3 ∷ Add 4 2 3 ∷ Set 5 1 ∷ Subtract 6 3 5 ∷ Set 7 0
    ∷ Set 8 rounds
    ∷ AddWord 7 7 1 ∷ Store 2 7 ∷ Fence ∷ Faa 9 0 5 ∷ Fence ∷ And 10 9 6 ∷ Subtract 9 9 10
    ∷ Add 9 9 3
    ∷ Load 10 0 ∷ Fence ∷ IsBelow 11 10 9 ∷ JumpIfNotZero 11 16
    ∷ Store 4 7 ∷ Fence ∷ IsEqual 11 7 8 ∷ JumpIfZero 11 8 ∷ Halt ∷ []

abbrev pub AreInStep : ℕ → CellWords → Type 0
AreInStep size word = (p q : ℕ) → p < size → q < size → word (8 + size + p) ≤ word (8 + q)

abbrev pub BarrierLaw : Type 0
BarrierLaw =
    (rounds : ℕ) → 1 ≤ rounds → rounds ≤ 1000 → IsKeptBySchedules (barrier rounds) AreInStep
