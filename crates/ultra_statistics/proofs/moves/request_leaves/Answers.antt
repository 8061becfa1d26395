use Rattle.std.proofs.Common.{ap, sym, ◌∙◌}
use Rattle.std.specs.Prelude.{slice_get}
use Rattle.ultra_switch.specs.{Arrive.Lane, Queues.request_of}
use Rattle.ultra_statistics.proofs.Moving.{no_request_leaves}
use Rattle.ultra_statistics.proofs.moves.request_leaves.Goals as goal

pub can_leave-requires-clause-first : goal.can_leave-requires-clause-first
can_leave-requires-clause-first c = ap (λ (l : Lane). request_of (slice_get l.queue 0)) (sym c.lane_of_one.ensures.state) ∙ sym c.head.ensures ∙ c.in-Some.is

pub returns-in-None : goal.returns-in-None
returns-in-None c =
    let b = c.args.blocks.now in
    let range = rw c.config.ensures at c.initial-valid.ensures.valid.range in
    sym (no_request_leaves b.config range b.machine c.args.stage c.args.position c.requires.stage c.requires.position (ap (λ (l : Lane). request_of (slice_get l.queue 0)) (sym c.lane_of_one.ensures.state) ∙ sym c.head.ensures ∙ c.in-None.is))
