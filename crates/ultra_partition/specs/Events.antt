-- what blocks list in a cycle, in the order of the rules
use Rattle.std.specs.Prelude.{◌*◌, ℕ, ◌+◌, ◌/◌, List, map}
use Rattle.ultra_partition.specs.Prelude.{switch_number, module_number, element_number, IsRanked, merged, Event, Stop, Delivered, Served, Combined, Issued}
use Rattle.ultra_partition.specs.Cut.{BlockState}
use Rattle.ultra_topology.specs.declared.TheConstants.{MOST_UNITS}

-- the order in which the rules list what happens in a cycle of a machine of d stages. Deliveries
-- are by processing element, servings by module, combinations by switch, issues by processing
-- element. Each of the four has a rank for each unit
abbrev pub event_rank : ℕ → Event → ℕ
event_rank d (Delivered r) = element_number d r.pe
event_rank d (Served m r reply now) = MOST_UNITS + module_number d m
event_rank d (Combined s x a old new first) = 2 * MOST_UNITS + switch_number d s (x / 2)
event_rank d (Issued r n) = 3 * MOST_UNITS + element_number d r.pe

-- what happens in a cycle has ranks below this
abbrev pub event_rank_count : ℕ
event_rank_count = 4 * MOST_UNITS

-- faults are listed by processing element
abbrev pub stop_rank : Stop → ℕ
stop_rank s = s.pe

-- the events of all blocks, in that order; those of one unit in the order in which they happened
unfoldable pub merged_events : ℕ → List BlockState → List Event
merged_events d bs = merged (event_rank d) event_rank_count (map (λ b. b.events) bs)

-- their faults
unfoldable pub merged_stops : ℕ → List BlockState → List Stop
merged_stops d bs = merged stop_rank 64 (map (λ b. b.stops) bs)

-- a block of a machine of d stages has events in the order of the rules, and stops by processing
-- element
pub record IsInOrder (d : ℕ) (b : BlockState) : Type 0 where
  pub events : IsRanked (event_rank d) event_rank_count b.events
  pub stops : IsRanked stop_rank 64 b.stops
