use Rattle.ultra_partition.specs.Cut.{block_at}
use Rattle.ultra_block.proofs.Dealt.{AreCarried}
use Rattle.ultra_block.proofs.blocks.Blocks.recut.Given as goal

abbrev pub invariant-loop-unit : goal.invariant-loop-unit
invariant-loop-unit l =
    let first = block_at l.initial.blocks.items 0 in
    AreCarried l.fn.self.config.stages l.partition (record l.initial.block { events = first.events; stops = first.stops }) l.unit l.block l.blocks.items
