-- laws over the cells of a program that hold after every schedule of the paracomputer
use Rattle.std.specs.Prelude.{All, ◌≡◌, ℕ, zero, suc, ◌+◌, ◌<◌, List, [], slice_index}
use Rattle.ultra_isa.specs.declared.Instr.{Instr}
use Rattle.ultra_model.specs.{Machine.{Settings, size}, Ranges.AreInRange}
use Rattle.ultra_para.specs.Para.{start_para, run_para}

-- the word in each cell; one that the memory hasn't counts as 0
abbrev pub CellWords : Type 0
CellWords = ℕ → ℕ

-- f 0 + f 1 + .. + f (n - 1)
abbrev pub total : ℕ → (ℕ → ℕ) → ℕ
total zero f = 0
total (suc n) f = f 0 + total n (λ k. f (suc k))

-- for all settings in their ranges without initial values and every schedule, the law of n
-- processing elements holds
abbrev pub IsKeptBySchedules : List Instr → (ℕ → CellWords → Type 0) → Type 0
IsKeptBySchedules program Law =
    (c : Settings) → AreInRange c → c.initial ≡ [] → (schedule : List ℕ)
    → All (λ p. p < size c) schedule
    → Law (size c) (slice_index (run_para c program (start_para c) schedule).cells)
