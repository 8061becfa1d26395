use Rattle.std.proofs.Common.{◌≡◌, replicate}
use Rattle.std.specs.Vec.{vec_capacity}
use Rattle.ultra_tree.specs.declared.slots.Slot.TheVariants.{Free}
use Rattle.ultra_tree.proofs.slots.add_free.Given as goal

abbrev pub invariant-loop-place : goal.invariant-loop-place
invariant-loop-place g l = record {
  items : l.slots.items ≡ replicate l.place Free;
  capacity : vec_capacity l.slots ≡ vec_capacity l.initial.slots;
}
