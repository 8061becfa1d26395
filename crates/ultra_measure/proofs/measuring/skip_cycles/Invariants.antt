use Rattle.ultra_trace_alone.proofs.Count.{IsBusy}
use Rattle.ultra_measure.specs.Running.{AreAfter}
use Rattle.ultra_measure.proofs.measuring.skip_cycles.Given as goal

abbrev pub invariant-loop-cycle : goal.invariant-loop-cycle
invariant-loop-cycle l =
    let c = l.initial.blocks.config in
    let program = l.initial.blocks.program in
    record {
      now : AreAfter c program l.cycle l.blocks l.table;
      busy : IsBusy c program l.cycle;
    }
