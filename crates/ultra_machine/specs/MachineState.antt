-- a machine with its settings and its program
use Rattle.std.specs.Prelude.{List}
use Rattle.ultra_isa.specs.declared.Instr.{Instr}
use Rattle.ultra_model.specs.Machine.{Settings, Machine}

pub record MachineState : Type 0 where
  pub settings : Settings
  pub program : List Instr
  pub state : Machine
