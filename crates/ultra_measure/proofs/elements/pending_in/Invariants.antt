use Rattle.std.proofs.Common.{◌^◌}
use Rattle.ultra_topology.specs.Numbers.{element_number}
use Rattle.ultra_holders.specs.Holders.{holders_left, numbers_in}
use Rattle.ultra_measure.specs.Held.{pending}
use Rattle.ultra_measure.proofs.Counted.{AreCounted}
use Rattle.ultra_measure.proofs.elements.pending_in.Given as goal

abbrev pub invariant-loop-pe : goal.invariant-loop-pe
invariant-loop-pe g l = AreCounted (pending l.blocks.machine) (pending l.blocks.machine) (λ k. 0) (numbers_in l.holders (element_number l.fn.net 0) (2 ^ l.fn.net)) l.yielded (holders_left l.pe-iterator) l.sum l.most 0
