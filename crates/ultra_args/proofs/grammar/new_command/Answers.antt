-- the texts of help change nothing that is read
use Rattle.clap.specs.Words.{new_app}
use Rattle.ultra_args.specs.Grammar.{IsApp}
use Rattle.ultra_args.proofs.Building.{with_about, with_after_long_help, with_long_about}
use Rattle.ultra_args.proofs.grammar.new_command.Goals as goal

pub returns : goal.returns
returns c =
    let start : IsApp (new_app c.args.name.now) c.new.result = (c.new.ensures.app, c.new.ensures.local) in
    let one = with_about _ _ c.about.result _ start c.about.ensures in
    let two = with_long_about _ _ c.long_about.result _ one c.long_about.ensures in
    with_after_long_help _ _ c.after_long_help.result _ two c.after_long_help.ensures
