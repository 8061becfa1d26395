-- what a command line asks for
use Rattle.std.specs.Prelude.{◌==◌, ◌&&◌, ◌||◌, ◌≤◌, ℕ, Bool, true, false, List, [], ◌∷◌, find, length, slice_index, Option, Some, None, is_some, codes, nat_lt, nat_le, if◌then◌else◌, option_map, option_and_then}
use Rattle.std.specs.{Char.digit_value, Option.{option_map_or, unwrap_or}, Str.{bytes_eq, Parse.{digits_value, without_leading_plus}}}
use Rattle.clap.specs.Words.{Row, Text, all_of, first_of, one_of, subcommand_of}
use Rattle.ultra_args.specs.{declared.{Invocation.Invocation, CyclesOutput.CyclesOutput, LineFilter.{LineFilter, TheVariants.{All, Events, End}}, ScheduleSource.{ScheduleSource, TheVariants.{File, Seed}}, sweep_output.SweepOutput.{SweepOutput, TheVariants.{Report, Measures}}, Coordination.{Coordination, TheVariants.{Gate, Queue, ReadersWriters, Barrier, Tickets}}, table.{Argument.Argument, ArgumentKind.{ArgumentKind, TheVariants.Number}, CommandName.CommandName, CommandRow.CommandRow}}, Grammar.ultra_app}
use Rattle.ultra_args.specs.declared.Invocation.TheVariants as command
use Rattle.ultra_args.specs.declared.CyclesOutput.TheVariants as shown
use Rattle.ultra_args.specs.declared.table.CommandName.TheVariants as name
use Rattle.ultra_args.specs.declared.table.TheConstants as arg

-- where the steps of a paracomputer come from, with the path as a text
pub data Schedule : Type 0 where
  by_file : Text → Schedule
  by_seed : ℕ → Option ℕ → Schedule

-- what the program is asked to do, with the paths as texts
pub data Asked : Type 0 where
  run : Text → Text → ℕ → ℕ → ℕ → LineFilter → Asked
  cycles : CyclesOutput → Text → Text → ℕ → ℕ → Asked
  requests : Text → Text → Asked
  measure : Text → Text → Bool → Option ℕ → ℕ → ℕ → Asked
  order : Text → Text → Asked
  explain : Text → Text → ℕ → Asked
  check : Text → Text → Text → Asked
  para : Text → Text → Schedule → Bool → Asked
  list : Text → Bool → Asked
  sweep : Text → ℕ → ℕ → Bool → SweepOutput → Asked
  lib : Coordination → Asked

abbrev pub schedule_of : ScheduleSource → Schedule
schedule_of (File path) = by_file path.now
schedule_of (Seed seed steps) = by_seed seed steps

abbrev pub asked_of : Invocation → Asked
asked_of (command.Run conf prog workers from to only) =
    run conf.now prog.now workers from to only
asked_of (command.Cycles output conf prog from to) = cycles output conf.now prog.now from to
asked_of (command.Requests conf prog) = requests conf.now prog.now
asked_of (command.Measure conf prog csv every from to) =
    measure conf.now prog.now csv every from to
asked_of (command.Order conf prog) = order conf.now prog.now
asked_of (command.Explain conf prog heap) = explain conf.now prog.now heap
asked_of (command.Check conf prog path) = check conf.now prog.now path.now
asked_of (command.Para conf prog schedule only_end) =
    para conf.now prog.now (schedule_of schedule) only_end
asked_of (command.List prog careful) = list prog.now careful
asked_of (command.Sweep jobs workers at_once progress output) =
    sweep jobs.now workers at_once progress output
asked_of (command.Lib coordination) = lib coordination

-- ---- what `clap` found for an argument

-- the flag of this name is given
abbrev pub is_set : Text → List Row → Bool
is_set name rows = option_map_or (λ t. bytes_eq t (codes "true")) (first_of name rows) false

abbrev pub all_digits : List ℕ → Bool
all_digits [] = true
all_digits (c ∷ cs) = nat_lt (digit_value c) 10 && all_digits cs

-- the number that digits write, below a limit
abbrev pub number_below : ℕ → List ℕ → Option ℕ
number_below limit ds =
    if nat_lt 0 (length ds) && (all_digits ds && nat_lt (digits_value 10 ds) limit)
    then Some (digits_value 10 ds) else None

-- a number of a coordination program: decimal digits alone, for a number of a register
abbrev pub decimal : Text → Option ℕ
decimal t = if slice_index t 0 == 43 then None else number_below 4294967296 t

-- the number of an option of this name: a plus may come first
abbrev pub given_number : Text → List Row → Option ℕ
given_number name rows = option_and_then (λ t.
    number_below 18446744073709551616 (without_leading_plus t)) (one_of name rows)

module _ {T : Type 0} where
  -- the number is in the range of an option of this kind
  abbrev pub IsInRange : ArgumentKind T → ℕ → Type 0
  IsInRange (Number number least most) n = (least ≤ n) × (n ≤ most)
  IsInRange _ n = ⊥

  abbrev pub in_range : ArgumentKind T → ℕ → Option ℕ
  in_range (Number number least most) n =
      if nat_le least n && nat_le n most then Some n else None
  in_range _ n = None

  -- the number of the option of this name, in the range of its kind
  abbrev pub number_of : Text → ArgumentKind T → List Row → Option ℕ
  number_of name kind rows = option_and_then (in_range kind) (given_number name rows)

-- ---- the commands

-- an argument of the table
abbrev pub TableArgument : Type 0
TableArgument = Argument (record { now : Text })

abbrev pub argument_text : TableArgument → List Row → Option Text
argument_text a = first_of a.name.now

abbrev pub argument_number : TableArgument → List Row → Option ℕ
argument_number a = number_of a.name.now a.kind

abbrev pub argument_flag : TableArgument → List Row → Bool
argument_flag a = is_set a.name.now

-- what follows from the text of an argument, and from the number of an option
abbrev pub with_text : TableArgument → List Row → (Text → Option Asked) → Option Asked
with_text a rows next = option_and_then next (argument_text a rows)

abbrev pub with_number : TableArgument → List Row → (ℕ → Option Asked) → Option Asked
with_number a rows next = option_and_then next (argument_number a rows)

-- the paths of the settings and of the program
abbrev pub paths_in : List Row → Option (Text × Text)
paths_in rows =
    option_and_then (λ conf. option_map (λ prog. (conf, prog)) (argument_text arg.PROG rows))
    (argument_text arg.CONF rows)

abbrev pub with_run : List Row → (Text → Text → Option Asked) → Option Asked
with_run rows next = option_and_then (λ paths. next paths.0 paths.1) (paths_in rows)

-- the first and the last of the cycles that are asked for
abbrev pub cycles_in : List Row → Option (ℕ × ℕ)
cycles_in rows =
    option_and_then (λ from. option_map (λ to. (from, to)) (argument_number arg.TO rows))
    (argument_number arg.FROM rows)

abbrev pub line_filter : List Row → Option LineFilter
line_filter rows = option_and_then (λ word. if bytes_eq word (codes "all") then Some All
    else (if bytes_eq word (codes "events") then Some Events
    else (if bytes_eq word (codes "end") then Some End else None))) (argument_text arg.ONLY rows)

abbrev pub only_end : List Row → Option Bool
only_end rows = option_and_then (λ word. if bytes_eq word (codes "all") then Some false
    else (if bytes_eq word (codes "end") then Some true else None))
    (argument_text arg.ALL_OR_END rows)

-- a file or a seed, and not both; steps only with a seed
abbrev pub schedule : Option Text → Option ℕ → Option ℕ → Option Schedule
schedule (Some path) None None = Some (by_file path)
schedule None (Some seed) steps = Some (by_seed seed steps)
schedule _ _ _ = None

abbrev pub schedule_in : List Row → Option Schedule
schedule_in rows =
    schedule (argument_text arg.SCHEDULE rows) (argument_number arg.SEED rows)
    (argument_number arg.STEPS rows)

-- windows of a sweep, or the first or the last of their cycles, are asked for
abbrev pub is_for_measures : List Row → Bool
is_for_measures rows = is_some (argument_number arg.EVERY rows)
    || (is_some (argument_number arg.JOBS_FROM rows) || is_some (argument_number arg.JOBS_TO rows))

-- windows and their cycles only of measures
abbrev pub output_in : List Row → Option SweepOutput
output_in rows = if argument_flag arg.MEASURES rows
    then Some (Measures (argument_number arg.EVERY rows)
    (unwrap_or (argument_number arg.JOBS_FROM rows) 0)
    (unwrap_or (argument_number arg.JOBS_TO rows) 1000000))
    else (if is_for_measures rows then None else Some Report)

-- the coordination programs of two numbers, and of one
abbrev pub program_with_size : Text → ℕ → ℕ → Option Coordination
program_with_size name size rounds = if bytes_eq name (codes "gate") then Some (Gate size rounds)
    else (if bytes_eq name (codes "queue") then Some (Queue size rounds)
    else (if bytes_eq name (codes "rw") then Some (ReadersWriters size rounds) else None))

abbrev pub program_without_size : Text → ℕ → Option Coordination
program_without_size name rounds = if bytes_eq name (codes "barrier") then Some (Barrier rounds)
    else (if bytes_eq name (codes "tickets") then Some (Tickets rounds) else None)

abbrev pub coordination : Text → List Text → Option Coordination
coordination name [] = None
coordination name (t ∷ []) = option_and_then (program_without_size name) (decimal t)
coordination name (z ∷ t ∷ []) =
    option_and_then (λ size. option_and_then (program_with_size name size) (decimal t)) (decimal z)
coordination name (z ∷ t ∷ x ∷ rest) = None

-- what is asked for of some cycles of a run
abbrev pub of_cycles : CyclesOutput → List Row → Option Asked
of_cycles output rows = option_and_then (λ range. with_run rows (λ conf prog.
    Some (cycles output conf prog range.0 range.1))) (cycles_in rows)

-- what a command is asked for
abbrev pub asked_in : CommandName → List Row → Option Asked
asked_in name.Run rows = option_and_then (λ cycles. with_run rows (λ conf prog.
    with_number arg.WORKERS rows (λ workers.
    option_map (run conf prog workers cycles.0 cycles.1) (line_filter rows)))) (cycles_in rows)
asked_in name.Events rows = of_cycles shown.Events rows
asked_in name.Steps rows = of_cycles shown.Steps rows
asked_in name.Requests rows = with_run rows (λ conf prog. Some (requests conf prog))
asked_in name.Latencies rows = of_cycles shown.Latencies rows
asked_in name.Measure rows = option_and_then (λ cycles. with_run rows (λ conf prog.
    Some (measure conf prog (argument_flag arg.CSV rows) (argument_number arg.EVERY rows)
    cycles.0 cycles.1))) (cycles_in rows)
asked_in name.Queues rows = of_cycles shown.Queues rows
asked_in name.Order rows = with_run rows (λ conf prog. Some (order conf prog))
asked_in name.Explain rows = with_run rows (λ conf prog. with_number arg.HEAP rows (λ heap.
    Some (explain conf prog heap)))
asked_in name.Check rows = with_run rows (λ conf prog. with_text arg.LIST rows (λ path.
    Some (check conf prog path)))
asked_in name.Para rows = with_run rows (λ conf prog. option_and_then (λ steps.
    option_map (para conf prog steps) (only_end rows)) (schedule_in rows))
asked_in name.List rows = with_text arg.PROG rows (λ prog.
    Some (list prog (argument_flag arg.CAREFUL rows)))
asked_in name.Sweep rows = with_text arg.JOBS rows (λ jobs.
    with_number arg.JOB_WORKERS rows (λ workers. with_number arg.AT_ONCE rows (λ at_once.
    option_map (sweep jobs workers at_once (argument_flag arg.PROGRESS rows)) (output_in rows))))
asked_in name.Lib rows = with_text arg.NAME rows (λ program.
    option_map lib (option_and_then (coordination program) (all_of arg.NUMBER.name.now rows)))

-- the command of this name
unfoldable pub command_among : {T R : Type 0} → (T → Text) → List (CommandRow T R) → Text
    → Option CommandName
command_among text rows word =
    option_map (λ row. row.command) (find (λ row. bytes_eq (text row.name) word) rows)

unfoldable pub command_named : Text → Option CommandName
command_named = command_among (λ t. t.now) arg.COMMANDS

-- what the command of this name is asked for
abbrev pub named : Text → List Row → Option Asked
named word rows = option_and_then (λ command. asked_in command rows) (command_named word)

abbrev pub named_in : Option (Text × List Row) → Option Asked
named_in = option_and_then (λ p. named p.0 p.1)

-- ---- arguments

-- what the arguments ask for; the first is the program's name
abbrev pub asked : List Text → Option Asked
asked words = named_in (subcommand_of ultra_app words)
