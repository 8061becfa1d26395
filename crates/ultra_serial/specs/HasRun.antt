-- a machine that has made its cycles
use Rattle.std.specs.Prelude.{◌≡◌, ◌≤◌, ◌⊎◌, ℕ, List, true}
use Rattle.ultra_isa.specs.declared.Instr.{Instr}
use Rattle.ultra_model.specs.{Machine.{Settings, is_quiet}, Phases.after}
use Rattle.ultra_machine.specs.MachineState.{MachineState}

-- it is the machine of these settings and this program after n cycles, or where it was quiet first
pub record HasRun (c : Settings) (program : List Instr) (n : ℕ) (m : MachineState) : Type 0 where
  pub settings : m.settings ≡ c
  pub instructions : m.program ≡ program
  pub state : m.state ≡ after c program m.state.cycles
  pub end : (m.state.cycles ≡ n) ⊎ ((m.state.cycles ≤ n) × (is_quiet m.state ≡ true))
