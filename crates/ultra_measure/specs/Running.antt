-- a run in its course, window by window
use Rattle.std.specs.Prelude.{◌≡◌, ℕ, ◌+◌, ◌<◌, ◌≤◌, List, false, min, None, IsSome}
use Rattle.ultra_isa.specs.declared.Instr.{Instr}
use Rattle.ultra_model.specs.{Machine.{Settings, is_quiet}, Phases.after, Trace.cycle_count}
use Rattle.ultra_block.specs.State.{BlocksState}
use Rattle.ultra_latency.specs.{declared.open.OpenTable.OpenTable, Open.IsOpenTable}
use Rattle.ultra_trace_alone.specs.BlocksAfter.{IsAfter}
use Rattle.ultra_measure.specs.{declared.measuring.WindowRun.WindowRun, Columns.ending, Kept.IsKept, Rows.ended_if}

module _ (c : Settings) (program : List Instr) where
  -- a machine in one block, and the table of the open requests, after n cycles
  pub record AreAfter (n : ℕ) (b : BlocksState) (t : OpenTable) : Type 0 where
    pub one : b.count ≡ 1
    pub state : IsAfter c program n b
    pub table : IsOpenTable c program n t

  -- and the run goes on
  pub record IsOn (n : ℕ) (b : BlocksState) (t : OpenTable) : Type 0 where
    pub now : AreAfter n b t
    pub busy : (j : ℕ) → 1 ≤ j → j ≤ n → is_quiet (after c program j) ≡ false
    pub within : n < c.cycles

  -- the cycles of a window were made, from `from` on: all, or fewer where the run ended
  pub record IsWindowRun (from every : ℕ) (b : BlocksState) (t : OpenTable)
      (r : WindowRun) : Type 0 where
    pub now : AreAfter r.to b t
    pub begins : r.window.from ≡ from
    pub further : from < r.to
    pub to : r.to ≡ min (from + every) (cycle_count c program)
    pub kept : IsKept c program from r.to r.window
    pub ended : ended_if r.ended ≡ ending c program from r.to
    pub on : r.ended ≡ None → IsOn r.to b t
    pub last : IsSome r.ended → r.to ≡ cycle_count c program
