use Rattle.std.proofs.Common.{◌≡◌, ◌-◌, ◌≤◌}
use Rattle.ultra_serial_law.specs.Explicable.{held_by}
use Rattle.ultra_tree.specs.Slots.{trees_in_slots}
use Rattle.ultra_tree.proofs.slots.count_of.Given as goal

abbrev pub invariant-loop-place : goal.invariant-loop-place
invariant-loop-place g l = record {
  counted : l.count ≡ held_by l.pe (trees_in_slots l.pe l.slots l.first (l.place - l.first));
  few : l.count ≤ l.place - l.first;
}
