use Rattle.clap.specs.Words.{new_app}
use Rattle.ultra_args.proofs.Tables.{next_argument}
use Rattle.ultra_args.proofs.grammar.command_of.Goals as goal

pub loop-argument-preserved : goal.loop-argument-preserved
loop-argument-preserved c = next_argument (λ t. t.now) (new_app c.args.row.now.name.now) c.args.row.now.arguments.now c.loop-argument.argument-index _ c.loop-argument.command c.argument_of.result c.in_ok-command.command c.loop-argument-test.true c.loop-argument.invariant c.argument_of.ensures c.in_ok-command.ensures
