-- careful programs see a paracomputer: the 1983 paper's claim for its machine, here for this
-- project's profile of it
use Rattle.std.specs.Prelude.{◌≡◌, ℕ, ◌*◌, ◌<◌, List, [], true, All, slice_index}
use Rattle.ultra_pni.specs.declared.OpenCell.{OpenCell}
use Rattle.ultra_isa.specs.declared.Instr.{Instr}
use Rattle.ultra_model.specs.{Machine.{Settings, Machine, size, element_at}, Phases.after, Ranges.AreInRange, Trace.cell_value}
use Rattle.ultra_para.specs.{Para.{Para, core_at, start_para, run_para}, Careful.is_careful}

-- a processing element that holds these cells open waits for no reply
abbrev pub WaitsForNothing : List OpenCell → Type 0
WaitsForNothing os = os ≡ []

-- the machine looks like the paracomputer: they have the same cells and, for each processing
-- element without an open cell, the same registers, program counter and state
pub record LooksLike (c : Settings) (m : Machine) (v : Para) : Type 0 where
  pub cells : (a : ℕ) → a < size c * c.cells → slice_index v.cells a ≡ cell_value c m a
  pub cores : (p : ℕ) → p < size c → WaitsForNothing (element_at m p).interface.opened
      → core_at v p ≡ (element_at m p).core

-- after some schedule of the paracomputer the machine looks like it
pub record IsReached (c : Settings) (program : List Instr) (m : Machine) : Type 0 where
  pub schedule : List ℕ
  pub elements : All (λ p. p < size c) schedule
  pub looks : LooksLike c m (run_para c program (start_para c) schedule)

-- for all settings in their ranges, every careful program and every number of cycles
abbrev pub ParacomputerLaw : Type 0
ParacomputerLaw =
    (c : Settings) → AreInRange c → (program : List Instr) → is_careful program ≡ true → (n : ℕ)
    → IsReached c program (after c program n)
