use Rattle.std.proofs.Common.{◌≡◌, ◌++◌, ℕ, List, Option, Some, None, MatchOption, sym, ap, ◌∙◌}
use Rattle.std.specs.{Prelude.◌≢◌, Option.option_copied, Borrow.Bor}
use Rattle.std.proofs.lemmas.{Slice.Eq.strip_prefix_is, Bool.Decides.Decides-eqb}
use Rattle.ultra_list.specs.Reading.{rest_after}
use Rattle.ultra_list.proofs.Exact.{after_back, after_none}
use Rattle.ultra_list.proofs.number.rest_after.Goals as goal

copied : (bytes text : List ℕ) (r : Option (Bor (List ℕ))) → MatchOption r ((rest : List ℕ) → text ≢ bytes ++ rest) (λ x. text ≡ bytes ++ x.now) → option_copied r ≡ rest_after bytes text
copied bytes text None h = sym (after_none bytes text h)
copied bytes text (Some x) h = sym (ap (rest_after bytes) h ∙ after_back bytes x.now)

pub returns : goal.returns
returns c = copied c.args.bytes.now c.args.text.now c.strip_prefix.result (strip_prefix_is Decides-eqb c.args.text.now c.args.bytes.now c.strip_prefix.result c.strip_prefix.ensures.cases)
