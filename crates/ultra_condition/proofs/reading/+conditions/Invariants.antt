use Rattle.std.proofs.Common.{ℕ, ◌+◌, ◌*◌, ◌≤◌, length}
use Rattle.std.specs.Prelude.{codes}
use Rattle.ultra_condition.specs.{Condition.{both, either}, ConditionOf.condition_of, Limits.AreWithinLimits, Grammar.{negation_at, conjunction_at, disjunction_at}}
use Rattle.ultra_condition.proofs.Parts.{ReadsOn}
use Rattle.ultra_condition.proofs.reading.+conditions.Given as goal

abbrev pub decreases-negation_at : goal.decreases-negation_at
decreases-negation_at l = 3 * l.depth

abbrev pub decreases-conjunction_at : goal.decreases-conjunction_at
decreases-conjunction_at l = 3 * l.depth + 1

abbrev pub decreases-disjunction_at : goal.decreases-disjunction_at
decreases-disjunction_at l = 3 * l.depth + 2

abbrev pub invariant-conjunction_at-loop-behind : goal.invariant-conjunction_at-loop-behind
invariant-conjunction_at-loop-behind l = record {
  read : ReadsOn (codes "and") (negation_at l.scope l.depth) (λ c. c) both (conjunction_at l.scope (negation_at l.scope l.depth) l.fn.text) (condition_of l.all) l.rest;
  within : AreWithinLimits l.scope.cells l.scope.elements (condition_of l.all);
  shorter : length l.rest ≤ length l.fn.text;
}

abbrev pub decreases-conjunction_at-loop-behind : goal.decreases-conjunction_at-loop-behind
decreases-conjunction_at-loop-behind l = length l.rest

abbrev pub invariant-disjunction_at-loop-behind : goal.invariant-disjunction_at-loop-behind
invariant-disjunction_at-loop-behind l = record {
  read : ReadsOn (codes "or") (conjunction_at l.scope (negation_at l.scope l.depth)) (λ c. c) either (disjunction_at l.scope (negation_at l.scope l.depth) l.fn.text) (condition_of l.any) l.rest;
  within : AreWithinLimits l.scope.cells l.scope.elements (condition_of l.any);
  shorter : length l.rest ≤ length l.fn.text;
}

abbrev pub decreases-disjunction_at-loop-behind : goal.decreases-disjunction_at-loop-behind
decreases-disjunction_at-loop-behind l = length l.rest
