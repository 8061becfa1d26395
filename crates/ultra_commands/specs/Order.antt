-- the serial order of a run as text; this project's profile
use Rattle.std.specs.Prelude.{ℕ, List}
use Rattle.ultra_isa.specs.declared.Instr.{Instr}
use Rattle.ultra_model.specs.{Machine.Settings, Trace.cycle_count}
use Rattle.ultra_serial_law.specs.SerialList.{serial_list}
pub use Rattle.ultra_list.specs.SerialText.{operation_text, order_line, order_text}

-- the serial order of the cycles that the trace has
abbrev pub order_of : Settings → List Instr → List ℕ
order_of c p = order_text (serial_list c p (cycle_count c p))
