-- a run whose serial order is given cycle by cycle, as its callers see it
use Rattle.std.specs.Prelude.{ℕ, List, [], Bool, false}
use Rattle.ultra_isa.specs.declared.Instr.{Instr}
use Rattle.ultra_model.specs.Machine.{Settings}
use Rattle.ultra_serial_law.specs.{declared.records.Entry.Entry, SerialList.serial_list}

-- its settings, its program, how many cycles it makes at most and how many it has made, whether
-- memory was refused, and what was served in the last cycle
pub record OrderedRunState : Type 0 where
  pub settings : Settings
  pub program : List Instr
  pub limit : ℕ
  pub cycles : ℕ
  pub is_spent : Bool
  pub entries : List Entry

abbrev pub at_start : Settings → List Instr → ℕ → OrderedRunState
at_start c p limit =
    record { settings = c; program = p; limit = limit; cycles = 0; is_spent = false; entries = [] }

-- the serial list of the cycles that it has made, and that of its most cycles
abbrev pub list_so_far : OrderedRunState → List Entry
list_so_far r = serial_list r.settings r.program r.cycles

abbrev pub whole_list : OrderedRunState → List Entry
whole_list r = serial_list r.settings r.program r.limit
