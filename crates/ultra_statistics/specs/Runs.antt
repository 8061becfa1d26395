-- how far a run is looked at
use Rattle.std.specs.Prelude.{ℕ, ◌+◌, List, min}
use Rattle.ultra_isa.specs.declared.Instr.{Instr}
use Rattle.ultra_model.specs.{Machine.Settings, Trace.cycle_count}

-- the cycle behind the last one that is made, where none behind cycle `to` is
abbrev pub end_of : ℕ → Settings → List Instr → ℕ
end_of to c program = min (to + 1) (cycle_count c program)
