-- what a text with and without `not` and `(` begins with
use Rattle.std.proofs.Common.{◌≡◌, ◌∙◌, ℕ, zero, suc, Bool, true, false, List, Option, Some, None, Result, Ok, Err, IfErr, is_some, option_copied, refl, sym}
use Rattle.std.specs.Prelude.{codes}
use Rattle.std.specs.Borrow.{Bor}
use Rattle.std.proofs.lemmas.Bool.{true≢false}
use Rattle.ultra_condition.specs.declared.fault.ConditionFault.{ConditionFault, TheVariants.NotOne}
use Rattle.ultra_condition.specs.{Condition.Condition, Words.after, Grammar.{Scope, comparison_at, negation_at, disjunction_at}}

pub plain : (s : Scope) (depth : ℕ) (text : List ℕ) → after (codes "not") text ≡ None → after (codes "(") text ≡ None → negation_at s depth text ≡ comparison_at s text
unfolding negation_at
plain s zero text e h = refl
plain s (suc depth) text e h = rw (e, h) refl

pub not_closed : (s : Scope) (depth : ℕ) (text rest behind : List ℕ) (c : Condition) → after (codes "not") text ≡ None → after (codes "(") text ≡ Some rest → disjunction_at s (negation_at s depth) rest ≡ Some (c, behind) → after (codes ")") behind ≡ None → negation_at s (suc depth) text ≡ None
unfolding negation_at
not_closed s depth text rest behind c e h k n = rw (e, h, k, n) refl

-- where it holds in any case
pub if_err_any : {A : Type 0} (P : Type 0) (r : Result A ConditionFault) → P → IfErr r (λ f. f ≡ NotOne → P)
if_err_any P (Ok a) p = tt
if_err_any P (Err f) p = λ e. p

pub none_copied : (o : Option (Bor (List ℕ))) (x : Option (List ℕ)) → option_copied o ≡ x → is_some o ≡ false → x ≡ None
none_copied None x e h = sym e
none_copied (Some b) x e h = absurd (true≢false h)
