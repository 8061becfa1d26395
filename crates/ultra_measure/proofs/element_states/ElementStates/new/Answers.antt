use Rattle.std.proofs.Common.{◌≡◌, ◌^◌, ◌∙◌, nat_lt, ap, sym}
use Rattle.ultra_measure.proofs.Known.{none_seen}
use Rattle.ultra_measure.proofs.element_states.ElementStates.new.Goals as goal

pub returns : goal.returns
returns c = λ s program m same.
    let size_is : c.size.result ≡ 2 ^ s.stages = c.size.ensures.value ∙ ap (λ d. 2 ^ d) (sym same) in
    none_seen s program m _ (λ p. c.below.ensures p ∙ ap (nat_lt p) size_is) c.new.ensures
