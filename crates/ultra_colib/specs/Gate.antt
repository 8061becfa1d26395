-- the gate: a bounded number of processing elements is inside at once. Its test, increment and
-- retest are the 1983 paper's
use Rattle.std.specs.Prelude.{ℕ, ◌+◌, ◌≤◌, List, [], ◌∷◌}
use Rattle.ultra_isa.specs.declared.Instr.{Instr}
use Rattle.ultra_isa.specs.declared.Instr.TheVariants.{Set, AddWord, Subtract, IsBelow, JumpIfZero, JumpIfNotZero, Jump, Number, Load, Store, Faa, Fence, Halt}
use Rattle.ultra_colib.specs.Schedules.{CellWords, total, IsKeptBySchedules}

-- cell 0 counts, cell 8 + p is 1 while processing element p is inside
abbrev pub gate : ℕ → ℕ → List Instr
gate bound rounds =
    Number 1 ∷ AddWord 1 1 8 ∷ Set 3 1 ∷ Set 4 bound ∷ Set 5 rounds ∷ Set 8 4294967295
    ∷ Load 6 0 ∷ Fence ∷ IsBelow 7 6 4 ∷ JumpIfZero 7 6
    ∷ Faa 6 0 3 ∷ Fence ∷ IsBelow 7 6 4 ∷ JumpIfNotZero 7 17
    ∷ Faa 6 0 8 ∷ Fence ∷ Jump 6
    ∷ Store 1 3 ∷ Fence ∷ Store 1 0 ∷ Fence ∷ Faa 6 0 8 ∷ Fence
    ∷ Subtract 5 5 3 ∷ JumpIfNotZero 5 6 ∷ Halt ∷ []

-- at most n flags are up
abbrev pub AreFewInside : ℕ → ℕ → CellWords → Type 0
AreFewInside bound size word = total size (λ p. word (8 + p)) ≤ bound

abbrev pub GateLaw : Type 0
GateLaw = (bound rounds : ℕ) → IsKeptBySchedules (gate bound rounds) (AreFewInside bound)
