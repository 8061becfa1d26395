use Rattle.ultra_sweep.specs.Gather.{NamesEachOnce}
use Rattle.ultra_sweep.proofs.{Whole.{only_memory, closed}, gathering.close_and_gather.Goals.After-gather}
use Rattle.ultra_sweep.proofs.gathering.close_and_gather.Goals as goal

-- each job is named once
once : (c : After-gather) → NamesEachOnce c.args.count c.args.results.items
once c = closed c.args.results.items c.args.seat.view.drawn c.args.count c.close-totals.result.claimed c.requires.drawn (rw c.requires.count at c.close-totals.ensures.claimed) (rw c.requires.count at (c.close-totals.ensures.spent c.requires.spent)) c.close-totals.ensures.each_once

pub unreachable-requires : goal.unreachable-requires
unreachable-requires c =
    let memory = only_memory c.args.count c.args.results.items (once c.before) c.in-Err-Double.field-0 c.in-Err-Double.ensures.err in
    let double = c.in-Err-Double.field-0-is in
    absurd cc

pub unreachable-requires-in-Err-Stranger : goal.unreachable-requires-in-Err-Stranger
unreachable-requires-in-Err-Stranger c =
    let memory = only_memory c.args.count c.args.results.items (once c.before) c.in-Err-Stranger.field-0 c.in-Err-Stranger.ensures.err in
    let stranger = c.in-Err-Stranger.field-0-is in
    absurd cc

pub unreachable-requires-in-Err-Missing : goal.unreachable-requires-in-Err-Missing
unreachable-requires-in-Err-Missing c =
    let memory = only_memory c.args.count c.args.results.items (once c.before) c.in-Err-Missing.field-0 c.in-Err-Missing.ensures.err in
    let missing = c.in-Err-Missing.field-0-is in
    absurd cc
