-- readers and writers: a writer is inside alone
use Rattle.std.specs.Prelude.{◌≡◌, ◌≢◌, ℕ, ◌+◌, ◌<◌, List, [], ◌∷◌}
use Rattle.ultra_isa.specs.declared.Instr.{Instr}
use Rattle.ultra_isa.specs.declared.Instr.TheVariants.{Set, AddWord, Subtract, IsBelow, JumpIfZero, JumpIfNotZero, Jump, Number, Store, Faa, Fence, Halt}
use Rattle.ultra_colib.specs.Schedules.{CellWords, IsKeptBySchedules}

-- cell 0 counts, cell 8 + p is 1 while processing element p is inside as a reader, 2 while as a
-- writer
abbrev pub readers_writers : ℕ → ℕ → List Instr
readers_writers writers rounds =
    Number 1 ∷ AddWord 2 1 8 ∷ Set 3 1 ∷ Set 4 65536 ∷ Set 5 rounds ∷ Set 6 writers
    ∷ Set 10 4294967295 ∷ Set 11 2 ∷ Subtract 12 0 4
    ∷ IsBelow 7 1 6 ∷ JumpIfNotZero 7 27
    ∷ Faa 8 0 3 ∷ Fence ∷ IsBelow 9 8 4 ∷ JumpIfNotZero 9 18 ∷ Faa 8 0 10 ∷ Fence ∷ Jump 11
    ∷ Store 2 3 ∷ Fence ∷ Store 2 0 ∷ Fence ∷ Faa 8 0 10 ∷ Fence ∷ Subtract 5 5 3
    ∷ JumpIfNotZero 5 11 ∷ Halt
    ∷ Faa 8 0 4 ∷ Fence ∷ JumpIfZero 8 33 ∷ Faa 8 0 12 ∷ Fence ∷ Jump 27
    ∷ Store 2 11 ∷ Fence ∷ Store 2 0 ∷ Fence ∷ Faa 8 0 12 ∷ Fence ∷ Subtract 5 5 3
    ∷ JumpIfNotZero 5 27 ∷ Halt ∷ []

-- where a flag is 2, all others are 0
abbrev pub AreWritersAlone : ℕ → CellWords → Type 0
AreWritersAlone size word =
    (p q : ℕ) → p < size → q < size → p ≢ q → word (8 + p) ≡ 2 → word (8 + q) ≡ 0

abbrev pub ReadersWritersLaw : Type 0
ReadersWritersLaw =
    (writers rounds : ℕ) → IsKeptBySchedules (readers_writers writers rounds) AreWritersAlone
