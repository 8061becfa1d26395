-- the registers are what the lines set
use Rattle.std.specs.Prelude.{◌≡◌, ◌<◌, ℕ, List, replicate}
use Rattle.ultra_isa.specs.declared.Instr.{Instr}
use Rattle.ultra_model.specs.{Machine.{Settings, size, element_at}, Phases.after}
use Rattle.ultra_steps.specs.RegisterSettings.{registers_after, register_settings}

-- after every number of cycles, the registers of each processing element are those that are 0 at
-- first, after all that the lines of these cycles set there
abbrev pub RegisterLaw : Type 0
RegisterLaw =
    (c : Settings) (program : List Instr) (n p : ℕ) → p < size c
    → (element_at (after c program n) p).core.registers
    ≡ registers_after (replicate 16 0) (register_settings c program n p)
