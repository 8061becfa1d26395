use Rattle.std.proofs.Common.{◌≡◌, map, take}
use Rattle.ultra_block.proofs.blocks.Blocks.events.Given as goal

abbrev pub invariant-loop-block : goal.invariant-loop-block
invariant-loop-block l = l.events ≡ record { ranking = record { net = l.self.config.stages }; lists = map (λ b. b.events) (take l.block-index l.block-items) }
