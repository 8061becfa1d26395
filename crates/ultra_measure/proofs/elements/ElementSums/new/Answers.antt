use Rattle.std.proofs.Common.{refl}
use Rattle.ultra_model.specs.{Machine.size, Phases.after, Balance.total}
use Rattle.ultra_measure.specs.{Held.{running, stalled, opened, pending}, Window.greatest}
use Rattle.ultra_measure.proofs.Keeping.{nothing_summed, no_most}
use Rattle.ultra_measure.proofs.elements.ElementSums.new.Goals as goal

pub returns : goal.returns
returns c = λ s program from same. record {
  running = nothing_summed s program from (λ m. total (size s) (running m)) 0 refl;
  stalled = nothing_summed s program from (λ m. total (size s) (stalled s program m)) 0 refl;
  opened = nothing_summed s program from (λ m. total (size s) (opened m)) 0 refl;
  pending = nothing_summed s program from (λ m. total (size s) (pending m)) 0 refl;
  pending_most = no_most s program from (λ m. greatest (size s) (pending m)) 0 refl;
  states = c.new.ensures s program (after s program from) same;
}
