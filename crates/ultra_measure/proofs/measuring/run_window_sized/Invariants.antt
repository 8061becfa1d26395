use Rattle.std.proofs.Common.{◌≡◌, ◌<◌}
use Rattle.ultra_trace_alone.proofs.Count.{IsBusy}
use Rattle.ultra_measure.specs.{Kept.IsKept, Running.AreAfter}
use Rattle.ultra_measure.proofs.measuring.run_window_sized.Given as goal

abbrev pub invariant-loop-cycle : goal.invariant-loop-cycle
invariant-loop-cycle g l =
    let c = l.initial.blocks.config in
    let program = l.initial.blocks.program in
    record {
      now : AreAfter c program l.cycle l.blocks l.table;
      busy : IsBusy c program l.cycle;
      within : l.cycle < c.cycles;
      from : l.window.from ≡ l.from;
      kept : IsKept c program l.from l.cycle l.window;
    }
