-- what holds where it isn't given
use Rattle.ultra_args.specs.Grammar.{kind_rule}
use Rattle.ultra_args.proofs.Building.{with_default, with_required}
use Rattle.ultra_args.proofs.grammar.argument_of.Goals as goal

pub returns-in-Required : goal.returns-in-Required
returns-in-Required c = rw c.in-Required.is (with_required (kind_rule (λ t. t.now) c.args.argument.now.name.now c.args.argument.now.kind) c.of_kind-given.result c.required.result c.of_kind-given.ensures c.required.ensures)

pub returns-in-Optional : goal.returns-in-Optional
returns-in-Optional c = rw c.in-Optional.is c.of_kind-given.ensures

pub returns-in-Default : goal.returns-in-Default
returns-in-Default c = rw c.in-Default.is (with_default (kind_rule (λ t. t.now) c.args.argument.now.name.now c.args.argument.now.kind) c.of_kind-given.result c.default_value.result c.of_kind-given.ensures _ c.default_value.ensures)
