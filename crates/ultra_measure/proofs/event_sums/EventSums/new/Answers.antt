use Rattle.std.proofs.Common.{refl, length}
use Rattle.ultra_model.specs.Balance.{count}
use Rattle.ultra_measure.specs.EventKinds.{is_issue, is_delivery, is_act, is_act_of, is_combination, is_combination_in}
use Rattle.ultra_measure.proofs.Keeping.{zeros, nothing_summed}
use Rattle.ultra_measure.proofs.event_sums.EventSums.new.Goals as goal

pub returns : goal.returns
returns c = λ s program from. record {
  issued = nothing_summed s program from (λ m. count is_issue m.events) 0 refl;
  answered = nothing_summed s program from (λ m. count is_delivery m.events) 0 refl;
  acts = nothing_summed s program from (λ m. count is_act m.events) 0 refl;
  combined = nothing_summed s program from (λ m. count is_combination m.events) 0 refl;
  faults = nothing_summed s program from (λ m. length m.stops) 0 refl;
  combined_in = λ k h. nothing_summed s program from (λ m. count (is_combination_in k) m.events) _ (zeros 6 k 0 refl);
  acts_of = λ k h. nothing_summed s program from (λ m. count (is_act_of k) m.events) _ (zeros 64 k 0 refl);
}
