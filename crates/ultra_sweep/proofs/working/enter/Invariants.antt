use Rattle.std.proofs.Common.{◌≡◌}
use Rattle.ultra_sweep.specs.Work.{HasTaken}
use Rattle.ultra_sweep.proofs.working.enter.Given as goal

abbrev pub invariant-loop : goal.invariant-loop
invariant-loop g l = record {
  can : (goal.iterator-loop g).can_next l.iterator';
  board : l.seat.board ≡ l.initial.seat.board;
  view : l.seat.view ≡ record l.initial.seat.view { full = l.seat.view.full; loads = l.seat.view.loads; adds = l.seat.view.adds };
  no_pass : HasTaken 0 l.initial.seat.view l.seat.view;
}
