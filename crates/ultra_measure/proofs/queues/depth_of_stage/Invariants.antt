use Rattle.std.proofs.Common.{ℕ, ◌+◌, ◌-◌, ◌*◌, ◌^◌, max}
use Rattle.ultra_topology.specs.Numbers.{switch_number}
use Rattle.ultra_holders.specs.Holders.{holders_left, numbers_in}
use Rattle.ultra_measure.specs.Held.{held_at, full_at}
use Rattle.ultra_measure.proofs.Counted.{AreCounted}
use Rattle.ultra_measure.proofs.queues.depth_of_stage.Given as goal

abbrev pub invariant-loop-switch : goal.invariant-loop-switch
invariant-loop-switch g l =
    let at : ℕ → ℕ = held_at l.held l.stage l.blocks.machine in
    let full : ℕ → ℕ = full_at l.blocks.config l.held l.stage l.blocks.machine in
    AreCounted (λ k. at (2 * k) + at (2 * k + 1)) (λ k. max (at (2 * k)) (at (2 * k + 1))) (λ k. full (2 * k) + full (2 * k + 1)) (numbers_in l.holders (switch_number l.blocks.config.stages l.stage 0) (2 ^ (l.blocks.config.stages - 1))) l.yielded (holders_left l.switch-iterator) l.sum l.most l.full
