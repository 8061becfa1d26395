-- the faults of a run; this project's profile
use Rattle.std.specs.Prelude.{ℕ}
use Rattle.ultra_trace_alone.specs.declared.fault.RunFault.{RunFault, TheVariants.{Write, NoMemory, NoThread}}

-- how often the sink has failed in a run that ended with the fault
abbrev pub sink_faults : RunFault → ℕ
sink_faults Write = 1
sink_faults NoMemory = 0
sink_faults NoThread = 0
