-- what each kind sets
use Rattle.std.proofs.Common.{◌∙◌, Some, ap}
use Rattle.ultra_args.proofs.Building.{with_action, with_long, with_parser, with_value_name}
use Rattle.ultra_args.proofs.grammar.of_kind.Goals as goal

pub returns-in-Numbers : goal.returns-in-Numbers
returns-in-Numbers c =
    let given = c.value_parser.ensures.given in
    let read = with_parser _ c.argument_with_help-named.result c.value_parser.result c.argument_with_help-named.ensures _ c.value_parser.ensures.others (given.1 ∙ ap (λ p. Some p) (given.2 ∙ c.unsigned.ensures)) in
    rw c.in-Numbers.is (with_action _ c.value_parser.result c.action.result read _ c.action.ensures)

pub returns-in-Number : goal.returns-in-Number
returns-in-Number c =
    let one = with_long _ c.argument_with_help-named.result c.long.result c.argument_with_help-named.ensures _ c.long.ensures in
    let two = with_value_name _ c.long.result c.value_name.result one _ c.value_name.ensures in
    let given = c.value_parser-in-Number.ensures.given in
    rw c.in-Number.is (with_parser _ c.value_name.result c.value_parser-in-Number.result two _ c.value_parser-in-Number.ensures.others (given.1 ∙ ap (λ p. Some p) (given.2 ∙ c.unsigned-in-Number.ensures)))

pub returns-in-Word : goal.returns-in-Word
returns-in-Word c =
    let one = with_long _ c.argument_with_help-named.result c.long-in-Word.result c.argument_with_help-named.ensures _ c.long-in-Word.ensures in
    rw c.in-Word.is (with_value_name _ c.long-in-Word.result c.value_name-in-Word.result one _ c.value_name-in-Word.ensures)

pub returns-in-Flag : goal.returns-in-Flag
returns-in-Flag c =
    let one = with_long _ c.argument_with_help-named.result c.long-in-Flag.result c.argument_with_help-named.ensures _ c.long-in-Flag.ensures in
    rw c.in-Flag.is (with_action _ c.long-in-Flag.result c.action-in-Flag.result one _ c.action-in-Flag.ensures)
