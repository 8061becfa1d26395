use Rattle.std.proofs.Common.{◌≡◌, ◌∙◌, ◌<◌, ◌≤◌, List, [], ◌∷◌, ◌++◌, length, Some, None, refl, sym, ap, subst, arith, rules}
use Rattle.std.specs.Prelude.{codes, All}
use Rattle.std.proofs.lemmas.List.Elements.{All-push}
use Rattle.ultra_condition.specs.{declared.value.Term.Term, Words.after, Limits.IsThere, Grammar.{term_at, terms_at}}
use Rattle.ultra_condition.proofs.Parts.{ReadsOn, reads_first, reads_no_first, reads_end, reads_none, reads_more}
use Rattle.ultra_condition.proofs.reading.terms_at.Goals as goal

pub returns-in_default-clause-refused : goal.returns-in_default-clause-refused
unfolding terms_at
returns-in_default-clause-refused c = λ e.
    let none : term_at c.args.scope.now c.args.text.now ≡ None = first_of (cc, search rules, grind arith) in
    reads_no_first (codes "+") (term_at c.args.scope.now) (λ (t : Term). t ∷ []) (λ (ts : List Term) t. ts ++ t ∷ []) c.args.text.now none

pub loop-behind-init : goal.loop-behind-init
unfolding terms_at
loop-behind-init c =
    let scope = c.args.scope.now in
    let first = c.in-Some.first in
    let P = λ (t : Term). IsThere scope.cells scope.elements t.value in
    let items : c.push.new.self.items ≡ first ∷ [] = c.in_ok-push.ensures.items ∙ ap (λ (ts : List Term). ts ++ first ∷ []) c.new-terms.ensures.items in
    let read : term_at scope c.args.text.now ≡ Some (first, c.in-Some.rest.now) = first_of (cc, search rules, grind arith) in
    let there : IsThere scope.cells scope.elements first.value = first_of (search rules, grind arith) in
    record {
      read = subst (λ (ts : List Term). ReadsOn (codes "+") (term_at scope) (λ (t : Term). t ∷ []) (λ (ts : List Term) t. ts ++ t ∷ []) (terms_at scope c.args.text.now) ts c.in-Some.rest.now) (sym items) (reads_first (codes "+") (term_at scope) (λ (t : Term). t ∷ []) (λ (ts : List Term) t. ts ++ t ∷ []) c.args.text.now c.in-Some.rest.now first read);
      there = subst (All P) (sym items) (All-push P [] first (λ k d h. absurd (omega (arith, h))) there);
      shorter = first_of (omega (arith, c.in-Some.ensures.shorter), search rules, grind arith);
    }

pub returns-in_default-term_at-clause-refused : goal.returns-in_default-term_at-clause-refused
returns-in_default-term_at-clause-refused c = λ e.
    let scope = c.args.scope.now in
    let rest = c.loop-behind.rest.now in
    let behind = c.in-Some-after.behind.now in
    let more : after (codes "+") rest ≡ Some behind = first_of (cc, search rules, grind arith) in
    let less : length behind < length rest = first_of (omega (arith, c.in-Some-after.ensures.shorter), search rules, grind arith) in
    let none : term_at scope behind ≡ None = first_of (cc, search rules, grind arith) in
    reads_none (codes "+") (term_at scope) (λ (t : Term). t ∷ []) (λ (ts : List Term) t. ts ++ t ∷ []) (terms_at scope c.args.text.now) c.loop-behind.terms.items rest behind c.loop-behind.invariant.read more less none

pub loop-behind-preserved : goal.loop-behind-preserved
loop-behind-preserved c =
    let scope = c.args.scope.now in
    let rest = c.loop-behind.rest.now in
    let behind = c.in-Some-after.behind.now in
    let term = c.in-Some-term_at.term in
    let next = c.in-Some-term_at.next.now in
    let P = λ (t : Term). IsThere scope.cells scope.elements t.value in
    let more : after (codes "+") rest ≡ Some behind = first_of (cc, search rules, grind arith) in
    let less : length behind < length rest = first_of (omega (arith, c.in-Some-after.ensures.shorter), search rules, grind arith) in
    let read : term_at scope behind ≡ Some (term, next) = first_of (cc, search rules, grind arith) in
    let within : length next ≤ length behind = first_of (omega (arith, c.in-Some-term_at.ensures.shorter), search rules, grind arith) in
    let there : IsThere scope.cells scope.elements term.value = first_of (search rules, grind arith) in
    let items : c.push-in-Some-after.new.self.items ≡ c.loop-behind.terms.items ++ term ∷ [] = c.in_ok-push-2.ensures.items in
    record {
      read = subst (λ (ts : List Term). ReadsOn (codes "+") (term_at scope) (λ (t : Term). t ∷ []) (λ (ts : List Term) t. ts ++ t ∷ []) (terms_at scope c.args.text.now) ts next) (sym items) (reads_more (codes "+") (term_at scope) (λ (t : Term). t ∷ []) (λ (ts : List Term) t. ts ++ t ∷ []) (terms_at scope c.args.text.now) c.loop-behind.terms.items rest behind next term c.loop-behind.invariant.read more less read within);
      there = subst (All P) (sym items) (All-push P c.loop-behind.terms.items term c.loop-behind.invariant.there there);
      shorter = omega (arith, within, less, c.loop-behind.invariant.shorter);
    }

pub returns-clause-read : goal.returns-clause-read
returns-clause-read c =
    let scope = c.args.scope.now in
    let rest = c.loop-behind.rest.now in
    let none : after (codes "+") rest ≡ None = first_of (cc, search rules, grind arith) in
    reads_end (codes "+") (term_at scope) (λ (t : Term). t ∷ []) (λ (ts : List Term) t. ts ++ t ∷ []) (terms_at scope c.args.text.now) c.loop-behind.terms.items rest c.loop-behind.invariant.read none
