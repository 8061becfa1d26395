use Rattle.std.proofs.Common.{◌+◌, ◌-◌, ◌<◌}
use Rattle.ultra_serial_law.specs.Explicable.{held_by}
use Rattle.ultra_tree.specs.Slots.{trees_in_slots}
use Rattle.ultra_tree.proofs.slots.free_place.Given as goal

-- the slots that are left have room
abbrev pub invariant-loop-place : goal.invariant-loop-place
invariant-loop-place g l =
    held_by l.pe (trees_in_slots l.pe l.slots l.place (l.first + l.most_open - l.place)) < l.first + l.most_open - l.place
