-- the condition that a value of the code is
use Rattle.ultra_condition.specs.declared.condition.Condition.{Condition as Tree, TheVariants.{Compare, Not', And', Or'}}
use Rattle.ultra_condition.specs.Condition.{Condition, compare, negate, both, either}

abbrev pub condition_of : Tree → Condition
condition_of (Compare a s b) = compare a s b
condition_of (Not' p c) = negate (condition_of c)
condition_of (And' p c q d) = both (condition_of c) (condition_of d)
condition_of (Or' p c q d) = either (condition_of c) (condition_of d)
