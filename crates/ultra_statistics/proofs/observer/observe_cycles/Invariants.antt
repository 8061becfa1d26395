use Rattle.std.proofs.Common.{◌≡◌, ◌-◌}
use Rattle.ultra_trace_alone.specs.BlocksAfter.{IsAfter}
use Rattle.ultra_trace_alone.proofs.Count.{IsBusy}
use Rattle.ultra_statistics.proofs.observer.observe_cycles.Given as goal

abbrev pub invariant-loop-cycle : goal.invariant-loop-cycle
invariant-loop-cycle g l =
    let c = l.initial.blocks.config in
    let program = l.initial.blocks.program in
    record {
      one : l.blocks.count ≡ 1;
      state : IsAfter c program l.cycle l.blocks;
      noted : g.O.Observer.has_noted l.observer c program (l.cycle - 1) l.cycle;
      from : g.O.Observer.from l.observer ≡ g.O.Observer.from l.initial.observer;
      busy : IsBusy c program l.cycle;
    }
