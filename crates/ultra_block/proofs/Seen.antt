-- A machine in blocks as contracts see it.
use Rattle.std.proofs.Common.{◌≡◌, ℕ, List, length, refl, arith}
use Rattle.std.proofs.lemmas.{Grind.common_steps, List.get_or_default}
use Rattle.ultra_partition.proofs.Merged.{merged_alone}
use Rattle.ultra_cycle_law.proofs.AtFrame.{memory_module_is, element_is, lane_is, replies_is, size_is}
use Rattle.ultra_cycle_law.specs.Whole.{Settings, whole}
use Rattle.ultra_partition.specs.{Cut.{BlockState, block_at}, Events.{IsInOrder, merged_events, merged_stops}, Halves.OfEach, Moments.machine_in}

pub cycles_are : (c : Settings) (partition : List ℕ) (n : ℕ) (bs : List BlockState) → (machine_in c partition n bs).cycles ≡ n
unfolding whole
cycles_are c partition n bs = refl

-- what one block lists is listed of the machine
pub one_lists : (d : ℕ) (bs : List BlockState) → length bs ≡ 1 → OfEach (IsInOrder d) bs → (merged_events d bs ≡ (block_at bs 0).events) × (merged_stops d bs ≡ (block_at bs 0).stops)
unfolding merged_events merged_stops
one_lists d bs one order = grind (arith, common_steps, merged_alone, order 0)

pub ruleset one_steps = (one_lists, get_or_default)

pub ruleset parts_are = (cycles_are, lane_is, replies_is, memory_module_is, element_is, size_is)
