-- the table in code has the names, the commands and the arguments of the constant
use Rattle.std.proofs.Common.{◌∙◌, refl, sym, Bor}
use Rattle.clap.specs.Words.{Text}
use Rattle.ultra_args.specs.{Asked.command_named, Grammar.ultra_app, declared.table.TheConstants.COMMANDS}
use Rattle.ultra_args.proofs.Tables.{by_names}
use Rattle.ultra_args.proofs.grammar.commands.Goals as goal

pub returns-clause-app : goal.returns-clause-app
unfolding ultra_app
returns-clause-app c = refl

pub returns-clause-names : goal.returns-clause-names
unfolding command_named
returns-clause-names c name =
    by_names (λ (t : Bor Text). t.now) _ name ∙ sym (by_names (λ (t : record { now : Text }). t.now) COMMANDS name)
