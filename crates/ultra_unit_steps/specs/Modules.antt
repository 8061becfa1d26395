-- a memory module after each half of a cycle
use Rattle.std.specs.Prelude.{ℕ, ◌/◌, Bool, ◌&&◌, Option, Some, None}
use Rattle.ultra_unit_steps.specs.Prelude.{Request, is_nothing}
use Rattle.ultra_mem.specs.Serve.{ModuleState}

-- a request goes into the register of a module, one of n, with the offset of its cell
abbrev pub module_with : ℕ → ModuleState → Option Request → ModuleState
module_with n b None = b
module_with n b (Some r) = record b { inp = Some record { request = r; offset = r.cell / n } }

-- nothing is in its two registers
abbrev pub quiet_module : ModuleState → Bool
quiet_module b = is_nothing b.inp && is_nothing b.out
