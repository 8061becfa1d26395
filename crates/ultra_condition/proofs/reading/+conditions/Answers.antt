use Rattle.std.proofs.Common.{◌≡◌, ◌∙◌, ℕ, suc, ◌-◌, false, List, Option, Some, None, IfOk, IfErr, is_ok, is_some, sym, ap, subst, arith, rules}
use Rattle.std.specs.Prelude.{codes}
use Rattle.ultra_condition.specs.declared.fault.ConditionFault.TheVariants.{NotOne}
use Rattle.ultra_condition.specs.{Condition.Condition, ConditionOf.condition_of, Words.after, Grammar.{comparison_at, negation_at, disjunction_at}}
use Rattle.ultra_condition.proofs.Negations.{plain, not_closed, if_err_any, none_copied}
use Rattle.ultra_condition.proofs.reading.+conditions.Goals as goal

pub negation_at-returns-in_err-rest-clause-refused : goal.negation_at-returns-in_err-rest-clause-refused
negation_at-returns-in_err-rest-clause-refused t c =
    let s = c.args.scope.now in
    let text = c.args.text.now in
    let rest = c.in-Some-after.rest.now in
    let inner = c.in_ok-condition-2 in
    let behind = inner.rest.now in
    let deeper : c.args.depth ≡ suc (c.args.depth - 1) = omega arith in
    let no_not : after (codes "not") text ≡ None = first_of (cc, search rules, grind arith) in
    let opened : after (codes "(") text ≡ Some rest = first_of (cc, search rules, grind arith) in
    let within : disjunction_at s (negation_at s (c.args.depth - 1)) rest ≡ Some (condition_of inner.condition, behind) = first_of (cc, search rules, grind arith) in
    let none : is_some c.after-in-Some-after.result ≡ false = first_of (cc, search rules, grind arith) in
    let not_shut : after (codes ")") behind ≡ None = none_copied c.after-in-Some-after.result _ c.after-in-Some-after.ensures.rest none in
    if_err_any (negation_at s c.args.depth text ≡ None) c.from_residual-in_err-rest.result (ap (λ n. negation_at s n text) deeper ∙ not_closed s (c.args.depth - 1) text rest behind (condition_of inner.condition) no_not opened within not_shut)

pub negation_at-returns-clause-read : goal.negation_at-returns-clause-read
negation_at-returns-clause-read t c =
    let s = c.args.scope.now in
    let text = c.args.text.now in
    let no_not : after (codes "not") text ≡ None = first_of (cc, search rules, grind arith) in
    let not_open : after (codes "(") text ≡ None = first_of (cc, search rules, grind arith) in
    subst (λ (o : Option (Condition × List ℕ)). IfOk c.comparison_at-2.result (λ r. o ≡ Some (condition_of r.0, r.1.now))) (sym (plain s c.args.depth text no_not not_open)) c.comparison_at-2.ensures.read

pub negation_at-returns-clause-refused : goal.negation_at-returns-clause-refused
negation_at-returns-clause-refused t c =
    let s = c.args.scope.now in
    let text = c.args.text.now in
    let no_not : after (codes "not") text ≡ None = first_of (cc, search rules, grind arith) in
    let not_open : after (codes "(") text ≡ None = first_of (cc, search rules, grind arith) in
    subst (λ (o : Option (Condition × List ℕ)). IfErr c.comparison_at-2.result (λ f. f ≡ NotOne → o ≡ None)) (sym (plain s c.args.depth text no_not not_open)) c.comparison_at-2.ensures.refused
