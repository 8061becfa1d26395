-- a part of a trace; this project's profile
use Rattle.std.specs.Prelude.{ℕ, ◌+◌, List, [], ◌++◌, Bool, true, false, ◌&&◌, ◌==◌, nat_le, codes, decimal, if◌then◌else◌}
use Rattle.ultra_isa.specs.declared.Instr.{Instr}
use Rattle.ultra_model.specs.{Machine.{Settings, Machine}, Phases.after, Text.newline, declared.config.TheConstants.MOST_CYCLES}
use Rattle.ultra_model.specs.Trace.{by_number, cycle_count, cycle_line, cycle_text, end_text, events_text, first_line, last_state}
use Rattle.ultra_trace_alone.specs.declared.part.{CycleLines.{CycleLines, TheVariants.{All, Events, None}}, TracePart.TracePart}

-- all lines of a cycle, after which this is the machine; its first line and its events; or none
abbrev pub chosen_lines : CycleLines → Settings → Machine → List ℕ
chosen_lines All c m = cycle_text c m
chosen_lines Events c m = cycle_line m ++ events_text m.events m.stops
chosen_lines None c m = []

-- whether the part has the cycle of a number
abbrev pub has_cycle : TracePart → ℕ → Bool
has_cycle part k = nat_le part.from k && nat_le k part.to

-- what is written of a cycle
abbrev pub part_lines : TracePart → Settings → List Instr → ℕ → List ℕ
part_lines part c program k =
    if has_cycle part k then chosen_lines part.lines c (after c program (k + 1)) else []

-- the lines at the end of a trace
abbrev pub trace_end : Settings → List Instr → List ℕ
trace_end c program = end_text c (last_state c program)

-- whether it is the whole trace: all lines of all cycles that a run can have
abbrev pub are_all : CycleLines → Bool
are_all All = true
are_all Events = false
are_all None = false

abbrev pub is_whole : TracePart → Bool
is_whole part = (part.from == 0) && (nat_le MOST_CYCLES part.to && are_all part.lines)

abbrev pub whole_trace : TracePart
whole_trace = record { from = 0; to = MOST_CYCLES; lines = All }

-- the line that says which part it is: its first and its last cycle as they were asked for, and
-- which of their lines. The whole trace has none
abbrev pub lines_word : CycleLines → List ℕ
lines_word All = codes "all"
lines_word Events = codes "events"
lines_word None = codes "end"

abbrev pub part_name : TracePart → List ℕ
part_name part =
    codes "part " ++ decimal part.from ++ codes " " ++ decimal part.to ++ codes " "
    ++ lines_word part.lines ++ newline

abbrev pub part_line : TracePart → List ℕ
part_line part = if is_whole part then [] else part_name part

-- the first line of the trace, the line of the part, lines of its cycles, and the lines at the end
unfoldable pub part_of : TracePart → Settings → List Instr → List ℕ
part_of part c program =
    (first_line ++ part_line part)
    ++ by_number (cycle_count c program) (part_lines part c program)
    ++ trace_end c program
