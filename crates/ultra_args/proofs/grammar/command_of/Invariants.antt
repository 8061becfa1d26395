use Rattle.std.proofs.Common.{take}
use Rattle.clap.specs.Words.{new_app}
use Rattle.ultra_args.specs.Grammar.{with_arguments, IsApp}
use Rattle.ultra_args.proofs.grammar.command_of.Given as goal

abbrev pub invariant-loop-argument : goal.invariant-loop-argument
invariant-loop-argument l = IsApp (with_arguments (λ t. t.now) (new_app l.row.name.now) (take l.argument-index l.row.arguments.now)) l.command
