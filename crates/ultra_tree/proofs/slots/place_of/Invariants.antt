use Rattle.std.proofs.Common.{◌≡◌, ◌-◌, []}
use Rattle.ultra_tree.specs.Slots.{trees_under, trees_in_slots}
use Rattle.ultra_tree.proofs.slots.place_of.Given as goal

-- no tree for the cell is in the slots so far
abbrev pub invariant-loop-place : goal.invariant-loop-place
invariant-loop-place g l = trees_under l.pe l.cell (trees_in_slots l.pe l.slots l.first (l.place - l.first)) ≡ []
