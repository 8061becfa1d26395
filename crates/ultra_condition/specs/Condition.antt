-- what a condition is; this project's profile
use Rattle.std.specs.Prelude.{List}
use Rattle.ultra_condition.specs.declared.{sum.Sign.Sign, value.Term.Term}

-- two sums that are compared, or what `not`, `and` and `or` make of conditions
pub data Condition : Type 0 where
  compare : List Term → Sign → List Term → Condition
  negate : Condition → Condition
  both : Condition → Condition → Condition
  either : Condition → Condition → Condition
