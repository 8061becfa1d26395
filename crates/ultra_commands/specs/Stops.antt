-- what is written of a trace, and why it ended early; this project's profile
use Rattle.std.specs.Prelude.{◌≡◌, ◌≢◌, ℕ, List, ◌⊎◌}
use Rattle.ultra_trace.specs.{Trace.trace, RunFault.RunFault}
use Rattle.ultra_trace.specs.RunFault.TheVariants as run
use Rattle.ultra_trace_alone.specs.{declared.part.{CycleLines.TheVariants.All, TracePart.TracePart}, Part.part_of}
use Rattle.ultra_inputs.specs.{Traffic.{Traffic, IsStopped, WroteText, TextFails}, declared.failure.Failure.{Failure, TheVariants.{NoMemory, NoThread, NotWritten}}}

-- what a fault of a run is for the command
abbrev pub failure_of_run : RunFault → Failure
failure_of_run run.Write = NotWritten
failure_of_run run.NoMemory = NoMemory
failure_of_run run.NoThread = NoThread

-- why a run by n workers ended early: one worker needs no thread to be started
abbrev pub IsStoppedBy : ℕ → Failure → Type 0
IsStoppedBy workers f = IsStopped f ⊎ ((f ≡ NoThread) × (workers ≢ 1))

-- a part has all lines of all cycles
pub record IsAll (part : TracePart) : Type 0 where
  pub from : part.from ≡ 0
  pub to : part.to ≡ 1000000
  pub lines : part.lines ≡ All

-- a part of the trace was written; where it has all, that is the trace
pub record WroteRun (part : TracePart) (conf prog : List ℕ) (old new : Traffic) : Type 0 where
  pub shown : WroteText (part_of part) conf prog old new
  pub whole : IsAll part → WroteText trace conf prog old new

-- how that fails, by n workers
pub record RunFails (part : TracePart) (workers : ℕ) (conf prog : List ℕ) (old new : Traffic)
    (f : Failure) : Type 0 where
  pub shown : TextFails (part_of part) (IsStoppedBy workers) conf prog old new f
  pub whole : IsAll part → TextFails trace (IsStoppedBy workers) conf prog old new f
