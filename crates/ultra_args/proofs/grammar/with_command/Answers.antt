-- the command of the row is added
use Rattle.std.proofs.lemmas.Result.{IfOk-weaker}
use Rattle.clap.specs.Words.{AddsSubcommand}
use Rattle.clap.specs.declared.builder.Command.{Command}
use Rattle.ultra_args.specs.Grammar.{app_in, IsApp}
use Rattle.ultra_args.proofs.grammar.with_command.Goals as goal

pub returns : goal.returns
returns c = IfOk-weaker c.subcommand.result (AddsSubcommand c.args.program c.in_ok-command.command) (λ new. (sub : Command) × IsApp (app_in (λ t. t.now) (λ r. r.now) c.args.row.now) sub × AddsSubcommand c.args.program sub new) (λ new adds. (c.in_ok-command.command, c.in_ok-command.ensures, adds)) c.subcommand.ensures
