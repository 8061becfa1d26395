use Rattle.std.proofs.Common.{◌+◌, ◌%◌, ◌++◌, ◌∷◌, [], ap, ◌∙◌}
use Rattle.ultra_tree.proofs.ShortTexts.{one_digit, two_digits_more}
use Rattle.ultra_tree.proofs.short_text.add_decimal.Goals as goal

pub returns-then-number-lt10-clause-items : goal.returns-then-number-lt10-clause-items
returns-then-number-lt10-clause-items c = c.push.ensures.items ∙ one_digit c.args.text.now.items c.args.number c.if-number-lt10.true

pub returns-then-number-lt100-clause-items : goal.returns-then-number-lt100-clause-items
returns-then-number-lt100-clause-items c =
    c.push-then-number-lt100-2.ensures.items
    ∙ (ap (λ t. t ++ (48 + c.args.number % 10) ∷ []) c.push-then-number-lt100.ensures.items
    ∙ two_digits_more c.args.text.now.items c.args.number c.if-number-lt10.false c.if-number-lt100.true)
