use Rattle.std.proofs.Common.{◌+◌, ◌-◌, ◌^◌}
use Rattle.ultra_topology.specs.{Numbers.switch_number, Set.has_unit}
use Rattle.ultra_holders.specs.Holders.{holders_left}
use Rattle.ultra_statistics.specs.Kept.{with_state}
use Rattle.ultra_statistics.proofs.Standing.{IsWalked}
use Rattle.ultra_statistics.proofs.counts.add_stage.Given as goal

abbrev pub invariant-loop-switch : goal.invariant-loop-switch
invariant-loop-switch g l =
    let c = l.blocks.config in
    IsWalked (λ k. has_unit l.holders (switch_number c.stages l.stage 0 + k)) (2 ^ (c.stages - 1)) l.stage (λ x q. with_state c l.held l.at l.blocks.machine l.stage x q) (holders_left l.switch-iterator) l.initial.counts l.counts
