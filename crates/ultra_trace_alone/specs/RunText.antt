-- what is written of a run
use Rattle.std.specs.Prelude.{ℕ, ◌+◌, List, ◌++◌, min, Option, Some, None}
use Rattle.ultra_isa.specs.declared.Instr.{Instr}
use Rattle.ultra_model.specs.{Machine.Settings, Trace.{by_number, cycle_count}}

pub record TextPieces : Type 0 where
  -- before the first cycle
  pub opening : List ℕ
  -- of each cycle, by its number
  pub lines : Settings → List Instr → ℕ → List ℕ
  -- after the last cycle that is made
  pub closing : Settings → List Instr → List ℕ
  -- the last cycle that may be made; without it the run goes on to the end of its trace
  pub last : Option ℕ

-- how many cycles of the trace aren't behind this one
abbrev pub cycles_until : Settings → List Instr → ℕ → ℕ
cycles_until c program last = min (last + 1) (cycle_count c program)

-- how many are made
abbrev pub cycles_for : Settings → List Instr → Option ℕ → ℕ
cycles_for c program None = cycle_count c program
cycles_for c program (Some last) = cycles_until c program last

-- how many may be made, if the machine isn't quiet before
abbrev pub most_for : Settings → Option ℕ → ℕ
most_for c None = c.cycles
most_for c (Some last) = min (last + 1) c.cycles

-- an opening, the lines of each cycle that is made, and a closing
unfoldable pub run_text : TextPieces → Settings → List Instr → List ℕ
run_text t c program =
    t.opening ++ by_number (cycles_for c program t.last) (t.lines c program)
    ++ t.closing c program
