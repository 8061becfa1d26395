-- the laws of the coordination programs on the machine
use Rattle.std.specs.Prelude.{◌≡◌, ℕ, ◌*◌, ◌≤◌, List, [], true, false, nat_lt}
use Rattle.ultra_isa.specs.declared.Instr.{Instr}
use Rattle.ultra_model.specs.{Machine.{Settings, Machine, size}, Phases.after, Ranges.AreInRange, Trace.cell_value}
use Rattle.ultra_colib.specs.{Schedules.CellWords, Gate.{gate, AreFewInside}, ReadersWriters.{readers_writers, AreWritersAlone}, Barrier.{barrier, AreInStep}, Queue.{queue, AreItemsOnce}}

-- the word in each cell of a machine; one that the memory hasn't counts as 0
abbrev pub cell_words : Settings → Machine → CellWords
cell_words c m a = elim (nat_lt a (size c * c.cells)) [ true ↦ cell_value c m a | false ↦ 0 ]

-- for all settings in their ranges without initial values and every number of cycles, the law of n
-- processing elements holds
abbrev pub IsKeptByMachine : List Instr → (ℕ → CellWords → Type 0) → Type 0
IsKeptByMachine program Law =
    (c : Settings) → AreInRange c → c.initial ≡ [] → (n : ℕ)
    → Law (size c) (cell_words c (after c program n))

-- the gate lets few in at once, a writer is inside alone, the rounds of the barrier are in step,
-- and the queue gives each item once
pub record CoordinationLaw : Type 0 where
  pub gate : (bound rounds : ℕ) → IsKeptByMachine (gate bound rounds) (AreFewInside bound)
  pub readers_writers : (writers rounds : ℕ)
      → IsKeptByMachine (readers_writers writers rounds) AreWritersAlone
  pub barrier : (rounds : ℕ) → 1 ≤ rounds → rounds ≤ 1000
      → IsKeptByMachine (barrier rounds) AreInStep
  pub queue : (z rounds : ℕ) → z ≤ 6 → 1 ≤ rounds → rounds ≤ 1000
      → IsKeptByMachine (queue z rounds) (AreItemsOnce z rounds)
