-- what the options of commands ask for; this project's profile
use Rattle.std.specs.Prelude.{ℕ, List, Bool, true, false, Option, Some, None}
use Rattle.ultra_isa.specs.declared.Instr.{Instr}
use Rattle.ultra_model.specs.Machine.{Settings}
use Rattle.ultra_trace_alone.specs.declared.part.{CycleLines.CycleLines, TracePart.TracePart}
use Rattle.ultra_trace_alone.specs.declared.part.CycleLines.TheVariants as lines
use Rattle.ultra_measure.specs.{declared.measuring.Layout.{Layout, TheVariants.{Lines, Table}}, Texts.measured}
use Rattle.ultra_requests.specs.EventLines.{events_of}
use Rattle.ultra_steps.specs.StepLines.{steps_of}
use Rattle.ultra_statistics.specs.{Queues.queues_of, Latencies.latencies_of_run}
use Rattle.ultra_args.specs.declared.{CyclesOutput.CyclesOutput, LineFilter.LineFilter}
use Rattle.ultra_args.specs.declared.CyclesOutput.TheVariants as cycles
use Rattle.ultra_args.specs.declared.LineFilter.TheVariants as filter

-- the lines of a cycle that are shown
abbrev pub lines_asked : LineFilter → CycleLines
lines_asked filter.All = lines.All
lines_asked filter.Events = lines.Events
lines_asked filter.End = lines.None

abbrev pub part_asked : ℕ → ℕ → LineFilter → TracePart
part_asked from to only = record { from = from; to = to; lines = lines_asked only }

-- the form of the measures: windows of a number of cycles, or all that is measured as one window
abbrev pub layout_asked : Bool → Option ℕ → Layout
layout_asked csv (Some every) = Table every
layout_asked true None = Table 1000000
layout_asked false None = Lines

abbrev pub measures_asked : Bool → Option ℕ → ℕ → ℕ → Settings → List Instr → List ℕ
measures_asked csv every from to c p = measured c p from to (layout_asked csv every)

-- what is written of some cycles
abbrev pub cycles_text : CyclesOutput → ℕ → ℕ → Settings → List Instr → List ℕ
cycles_text cycles.Events = events_of
cycles_text cycles.Steps = steps_of
cycles_text cycles.Latencies = latencies_of_run
cycles_text cycles.Queues = queues_of
