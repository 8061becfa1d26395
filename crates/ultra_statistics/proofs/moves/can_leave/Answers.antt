use Rattle.std.proofs.Common.{◌≡◌, ◌+◌, ◌<◌, ap, sym, ◌∙◌, arith}
use Rattle.ultra_route.specs.Route.{shuffled}
use Rattle.ultra_model.specs.Machine.{last_stage, request_exit}
use Rattle.ultra_statistics.proofs.Moving.{request_leaves_last, request_leaves_below}
use Rattle.ultra_statistics.proofs.moves.can_leave.Goals as goal

pub returns-then-stage-stages : goal.returns-then-stage-stages
returns-then-stage-stages c =
    let b = c.args.blocks.now in
    let range = rw c.config.ensures at c.initial-valid.ensures.valid.range in
    let last : c.args.stage ≡ last_stage b.config = omega (arith, c.if-stage-stages.true, c.stages.ensures.value, c.requires.net) in
    c.takes_request.ensures ∙ sym (request_leaves_last b.config range b.machine c.args.stage c.args.position c.args.request last c.requires.stage c.requires.position c.requires.first)

pub returns : goal.returns
returns c =
    let b = c.args.blocks.now in
    let s = c.args.stage in
    let range = rw c.config.ensures at c.initial-valid.ensures.valid.range in
    let below : s + 1 < b.config.stages = omega (arith, c.if-stage-stages.false, c.stages.ensures.value, c.requires.net, c.requires.stage) in
    let exit = c.exit_of-exit.ensures.value b.config (sym c.requires.net) ∙ ap (λ y. request_exit b.config (s + 1) y c.args.request) (c.shuffle.ensures.value ∙ ap (λ d. shuffled d c.args.position) c.requires.net) in
    rw (c.lane_of_one.ensures.state, c.lane_of_one.ensures.requests) at c.has_room.ensures
    ∙ sym (request_leaves_below b.config range b.machine s c.args.position c.exit_of-exit.result c.args.request below c.requires.position c.requires.first exit (rw c.requires.net at c.exit_of-exit.ensures.small))
