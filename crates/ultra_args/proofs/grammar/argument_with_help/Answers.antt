-- the help changes nothing that is read
use Rattle.clap.specs.Words.{new_rule}
use Rattle.ultra_args.specs.Grammar.{IsRead}
use Rattle.ultra_args.proofs.Building.{with_help, with_long_help}
use Rattle.ultra_args.proofs.grammar.argument_with_help.Goals as goal

pub returns-in-Some : goal.returns-in-Some
returns-in-Some c =
    let start : IsRead (new_rule c.args.name.now) c.new-argument.result = (c.new-argument.ensures.rule, c.new-argument.ensures.optional.1) in
    let one = with_help _ c.new-argument.result c.help.result start _ c.help.ensures in
    with_long_help _ c.help.result c.long_help.result one _ c.long_help.ensures

pub returns-in-None : goal.returns-in-None
returns-in-None c =
    let start : IsRead (new_rule c.args.name.now) c.new-argument.result = (c.new-argument.ensures.rule, c.new-argument.ensures.optional.1) in
    with_help _ c.new-argument.result c.help-in-None.result start _ c.help-in-None.ensures
