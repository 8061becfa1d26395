use Rattle.std.proofs.Common.{◌≡◌, ◌≤◌, take, length}
use Rattle.std.specs.List.{sum_by}
use Rattle.ultra_para.specs.ParaState.{cores_of}
use Rattle.ultra_condition.specs.{Meaning.term_in, Limits.most_term}
use Rattle.ultra_condition.proofs.sum.Sum.value.Given as goal

abbrev pub invariant-loop-term : goal.invariant-loop-term
invariant-loop-term l = record {
  value : l.value ≡ sum_by (term_in record { cells = l.cells; cores = cores_of l.processors }) (take l.term-index l.term-items);
  small : l.value ≤ sum_by (most_term (length l.processors)) (take l.term-index l.term-items);
}
