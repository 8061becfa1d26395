use Rattle.std.proofs.Common.{◌≡◌, false, length, ap, sym, ◌∙◌}
use Rattle.std.specs.Prelude.{◌==◌, List}
use Rattle.ultra_msg.specs.declared.ReplyMessage.{ReplyMessage}
use Rattle.ultra_model.specs.Machine.{replies_at}
use Rattle.ultra_route.specs.Route.{unshuffled}
use Rattle.ultra_statistics.proofs.Moving.{empty_if, no_reply_leaves, reply_leaves_first, reply_leaves_behind}
use Rattle.ultra_statistics.proofs.moves.reply_leaves.Goals as goal

pub returns-then-is_empty : goal.returns-then-is_empty
returns-then-is_empty c =
    let b = c.args.blocks.now in
    let range = rw c.config.ensures at c.initial-valid.ensures.valid.range in
    sym (no_reply_leaves b.config range b.machine c.args.stage c.args.position c.requires.stage c.requires.position (sym c.reply_queue_of_one.ensures.state ∙ empty_if _ (sym c.is_empty.ensures ∙ c.if-is_empty.true)))

pub returns-then-stage-eq0 : goal.returns-then-stage-eq0
returns-then-stage-eq0 c =
    let b = c.args.blocks.now in
    let range = rw c.config.ensures at c.initial-valid.ensures.valid.range in
    let some : (length (replies_at b.machine c.args.stage c.args.position) == 0) ≡ false = ap (λ (rs : List ReplyMessage). length rs == 0) (sym c.reply_queue_of_one.ensures.state) ∙ sym c.is_empty.ensures ∙ c.if-is_empty.false in
    sym (reply_leaves_first b.config range b.machine c.args.stage c.args.position c.if-stage-eq0.true some)

pub returns : goal.returns
returns c =
    let b = c.args.blocks.now in
    let range = rw c.config.ensures at c.initial-valid.ensures.valid.range in
    let some : (length (replies_at b.machine c.args.stage c.args.position) == 0) ≡ false = ap (λ (rs : List ReplyMessage). length rs == 0) (sym c.reply_queue_of_one.ensures.state) ∙ sym c.is_empty.ensures ∙ c.if-is_empty.false in
    c.has_reply_room.ensures ∙ sym (reply_leaves_behind b.config range b.machine c.args.stage c.args.position c.unshuffle.result c.if-stage-eq0.false c.requires.stage c.requires.position some (c.unshuffle.ensures.value ∙ ap (λ d. unshuffled d c.args.position) c.requires.net))
