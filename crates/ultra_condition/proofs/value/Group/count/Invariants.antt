use Rattle.std.proofs.Common.{◌≡◌, take}
use Rattle.std.specs.List.{count_by}
use Rattle.ultra_isa.specs.Step.{ProcessorState}
use Rattle.ultra_condition.specs.Meaning.{is_counted}
use Rattle.ultra_condition.proofs.value.Group.count.Given as goal

abbrev pub invariant-loop-processor : goal.invariant-loop-processor
invariant-loop-processor l =
    l.count ≡ count_by (λ (p : ProcessorState). is_counted l.self p.core) (take l.processor-index l.processors)
