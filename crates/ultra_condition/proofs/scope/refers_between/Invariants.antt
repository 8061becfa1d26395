use Rattle.std.proofs.Common.{◌≡◌, ◌-◌, false}
use Rattle.ultra_condition.specs.Grammar.{has_reference}
use Rattle.ultra_condition.proofs.scope.refers_between.Given as goal

abbrev pub invariant-loop-pc : goal.invariant-loop-pc
invariant-loop-pc l = has_reference l.program l.from (l.pc - l.from) ≡ false
