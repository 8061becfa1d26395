use Rattle.std.proofs.Common.{◌+◌, ◌-◌, ◌^◌, ◌∙◌, ap, arith}
use Rattle.ultra_topology.specs.Numbers.{switch_number}
use Rattle.ultra_holders.specs.Holders.{holders_left, numbers_in}
use Rattle.ultra_measure.proofs.Counted.{none_counted, one_more, sum_of_all, most_of_all, full_of_all, next_within, next_fits}
use Rattle.ultra_measure.proofs.Emptiness.{stage_sum, stage_most, stage_full}
use Rattle.ultra_measure.proofs.queues.depth_of_stage.Goals as goal

pub loop-switch-init : goal.loop-switch-init
loop-switch-init g c =
    none_counted
    (ap holders_left c.into_iter-switch-iterator.ensures.into_iter_gives
    ∙ c.switches_of-switch-items.ensures
    ∙ ap (λ d. numbers_in c.args.holders.now (switch_number d c.args.stage 0) (2 ^ (d - 1))) c.requires.net.is)

pub depth_of_switch-here-requires-clause-switch : goal.depth_of_switch-here-requires-clause-switch
depth_of_switch-here-requires-clause-switch g c =
    let d = c.args.blocks.now.config.stages in
    next_within c.args.holders.now (switch_number d c.args.stage 0) (2 ^ (d - 1)) c.loop-switch.invariant (rw c.in-Some.is at c.next.ensures.steps)

pub overflow_add-sum : goal.overflow_add-sum
overflow_add-sum g c =
    let d = c.args.blocks.now.config.stages in
    let fits = next_fits c.args.holders.now (switch_number d c.args.stage 0) (2 ^ (d - 1)) c.loop-switch.invariant (rw c.in-Some.is at c.next.ensures.steps) in
    omega (arith, fits.0, c.requires.net.few, c.depth_of_switch-here.ensures.few.0)

pub overflow_add-full : goal.overflow_add-full
overflow_add-full g c =
    let d = c.args.blocks.now.config.stages in
    let fits = next_fits c.args.holders.now (switch_number d c.args.stage 0) (2 ^ (d - 1)) c.loop-switch.invariant (rw c.in-Some.is at c.next.ensures.steps) in
    omega (arith, fits.1, c.requires.net.few, c.depth_of_switch-here.ensures.few.1)

pub loop-switch-preserved : goal.loop-switch-preserved
loop-switch-preserved g c =
    let here = c.depth_of_switch-here.ensures in
    one_more c.loop-switch.invariant _ _ _ (rw c.in-Some.is at c.next.ensures.steps) (ap (λ y. c.loop-switch.sum + y) here.sum) (rw here.most at c.max-most.ensures) (ap (λ y. c.loop-switch.full + y) here.full) (rw here.sum at here.few.0) (rw here.full at here.few.1)

pub returns : goal.returns
returns g c =
    let d = c.args.blocks.now.config.stages in
    let none = rw c.in-None.is at c.next.ensures.steps in
    record {
      sum = sum_of_all c.loop-switch.invariant none.0 ∙ stage_sum d c.args.blocks.now.machine c.args.stage c.requires.stage c.requires.net.even c.args.held c.args.holders.now c.requires.holders;
      most = most_of_all c.loop-switch.invariant none.0 ∙ stage_most d c.args.blocks.now.machine c.args.stage c.requires.stage c.requires.net.even c.args.held c.args.holders.now c.requires.holders;
      full = full_of_all c.loop-switch.invariant none.0 ∙ stage_full d c.args.blocks.now.machine c.args.stage c.requires.stage c.requires.net.even c.args.held c.args.holders.now c.requires.holders c.args.blocks.now.config;
    }
