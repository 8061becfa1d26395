-- which units of a whole machine of d stages hold something
use Rattle.std.specs.Prelude.{ℕ, ◌+◌, ◌*◌, List, Bool, false, not, ◌&&◌}
use Rattle.ultra_partition.specs.Prelude.{Element, lane_at, replies_at, module_at, has_none, of_unit, whole, Settings, Machine, Event, Stop, Held, IsSetOf, module_holds}
use Rattle.ultra_model.specs.Machine.{element_at}
use Rattle.ultra_block_core.specs.declared.held.Held.TheVariants.{Reply, Request, Record}
use Rattle.ultra_partition.specs.{Cut.{frame_of, BlockState}, Halves.AreBlocks}

-- switch k of stage s: in the queues or wait buffers of its two positions
abbrev pub stage_holds : Machine → Held → ℕ → ℕ → Bool
stage_holds m Reply s k =
    not (has_none (replies_at m s (2 * k)) && has_none (replies_at m s (2 * k + 1)))
stage_holds m Request s k =
    not (has_none (lane_at m s (2 * k)).queue && has_none (lane_at m s (2 * k + 1)).queue)
stage_holds m Record s k =
    not (has_none (lane_at m s (2 * k)).records && has_none (lane_at m s (2 * k + 1)).records)

-- a processing element: in its interface
abbrev pub interface_holds : Held → Element → Bool
interface_holds Request e = not (has_none e.interface.pending)
interface_holds held e = false

-- the unit with number n
abbrev pub holds : ℕ → Machine → Held → ℕ → Bool
holds d m held n =
    of_unit d (stage_holds m held)
    (λ j. module_holds held (module_at m j))
    (λ p. interface_holds held (element_at m p))
    false n

-- the set has exactly the units that hold it, however the machine is cut
abbrev pub IsSetOfAll : List BlockState → Held → List ℕ → Type 0
IsSetOfAll bs held set =
    (c : Settings) (partition : List ℕ) (n : ℕ) (events : List Event) (stops : List Stop)
    → AreBlocks c.stages partition bs
    → IsSetOf (holds c.stages (whole c (frame_of c.stages partition bs) n events stops) held) set
