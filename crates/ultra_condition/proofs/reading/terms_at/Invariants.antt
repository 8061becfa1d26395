use Rattle.std.proofs.Common.{◌≤◌, List, [], ◌∷◌, ◌++◌, length}
use Rattle.std.specs.Prelude.{codes, All}
use Rattle.ultra_condition.specs.{declared.value.Term.Term, Limits.IsThere, Grammar.{term_at, terms_at}}
use Rattle.ultra_condition.proofs.Parts.{ReadsOn}
use Rattle.ultra_condition.proofs.reading.terms_at.Given as goal

abbrev pub invariant-loop-behind : goal.invariant-loop-behind
invariant-loop-behind l = record {
  read : ReadsOn (codes "+") (term_at l.scope) (λ t. t ∷ []) (λ (ts : List Term) t. ts ++ t ∷ []) (terms_at l.scope l.fn.text) l.terms.items l.rest;
  there : All (λ (t : Term). IsThere l.scope.cells l.scope.elements t.value) l.terms.items;
  shorter : length l.rest ≤ length l.fn.text;
}

abbrev pub decreases-loop-behind : goal.decreases-loop-behind
decreases-loop-behind l = length l.rest
