use Rattle.std.proofs.Common.{sym, ap, ◌∙◌}
use Rattle.std.specs.Slots.{slots_items}
use Rattle.ultra_board.proofs.Closing.{closing}
use Rattle.ultra_board.proofs.words.BoardWords.close.Goals as goal

pub returns : goal.returns
returns c =
    let token = c.args.token in
    let closed = c.close_with-closed in
    let all = c.requires.all ∙ sym (ap (λ b. b.limits.seats) c.self.view_is) in
    closing c.self.inside.table.shared.key token.id token.me.0 (slots_items closed.result.words) (slots_items closed.result.slots) closed.ensures.values.2 all c.requires.no_try
    c.word.result c.word-2.result c.word-3.result c.word.ensures c.word-2.ensures c.word-3.ensures
