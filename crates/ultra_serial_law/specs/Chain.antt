-- the serial lists of a run are a chain of legal lists
use Rattle.std.specs.Prelude.{◌≡◌, ℕ, ◌+◌, List}
use Rattle.ultra_msg.specs.Bytes.{IsPrefix}
use Rattle.ultra_isa.specs.declared.Instr.{Instr}
use Rattle.ultra_model.specs.{Machine.Settings, Phases.after, Ranges.AreInRange, Trace.{cell_value, cycle_count}}
use Rattle.ultra_serial_law.specs.{Legal.{given, IsLegal}, SerialList.{history, serial_list}}

-- each list is a prefix of the next, and legal for the log and the cells of its cycle. The list of
-- the cycles that the trace has is that of all cycles that the settings allow
pub record AreChained (c : Settings) (program : List Instr) : Type 0 where
  pub grows : (n : ℕ) → IsPrefix (serial_list c program n) (serial_list c program (n + 1))
  pub legal : (n : ℕ)
      → IsLegal (given c.initial) (history c program n).log (cell_value c (after c program n))
      (serial_list c program n)
  pub whole : serial_list c program (cycle_count c program) ≡ serial_list c program c.cycles

-- for all settings in their ranges, every program and every number of cycles
abbrev pub SerializationLaw : Type 0
SerializationLaw = (c : Settings) → AreInRange c → (program : List Instr) → AreChained c program
