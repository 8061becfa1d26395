-- a machine in the course of a run
use Rattle.std.specs.Prelude.{◌≡◌, ℕ, List}
use Rattle.ultra_isa.specs.declared.Instr.{Instr}
use Rattle.ultra_model.specs.{Machine.Settings, Phases.after}
use Rattle.ultra_block.specs.State.{BlocksState}

-- it is the machine of these settings and this program after n cycles
pub record IsAfter (c : Settings) (program : List Instr) (n : ℕ) (b : BlocksState) : Type 0 where
  pub settings : b.config ≡ c
  pub instructions : b.program ≡ program
  pub state : b.machine ≡ after c program n
