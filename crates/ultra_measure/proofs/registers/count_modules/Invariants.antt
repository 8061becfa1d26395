use Rattle.std.proofs.Common.{◌≡◌, ◌^◌, ◌++◌, length}
use Rattle.ultra_topology.specs.Numbers.{module_number}
use Rattle.ultra_holders.specs.Holders.{holders_left, numbers_in}
use Rattle.ultra_measure.proofs.registers.count_modules.Given as goal

abbrev pub invariant-loop-unit : goal.invariant-loop-unit
invariant-loop-unit g l = (l.count ≡ length l.yielded) × (l.yielded ++ holders_left l._unit-iterator ≡ numbers_in l.units (module_number l.fn.net 0) (2 ^ l.fn.net))
