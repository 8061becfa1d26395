-- the blocks of a machine as a cycle begins, when nothing has happened in it yet
use Rattle.std.specs.Prelude.{ℕ, ◌+◌, ◌*◌, ◌^◌, ◌==◌, true, false, List, Option, Some, None, length}
use Rattle.ultra_isa.specs.declared.Instr.{Instr}
use Rattle.ultra_switch.specs.{declared.Switch.Switch, Queues.{SizedLane, SizedReplies}}
use Rattle.ultra_model.specs.Places.{places}
use Rattle.ultra_model.specs.Machine.{Settings, Machine, lane_at, replies_at, module_at, element_at, site}
use Rattle.ultra_topology.specs.Numbers.{switch_count, module_number, element_number}
use Rattle.ultra_unit_steps.specs.{Halves.ports, declared.elements.ProcessingElement.ProcessingElement}
use Rattle.ultra_block_core.specs.{Units.{stage_of, index_of}, BlockState.BlockState, Building.empty_block}
use Rattle.ultra_partition.specs.{Cut.home, Moments.machine_in}
use Rattle.ultra_block.specs.State.{BlocksState}

-- the units of a machine, by their numbers
module _ (c : Settings) (m : Machine) where
  abbrev pub lane_in : ℕ → ℕ → SizedLane
  lane_in s x = record {
    lane = lane_at m s x;
    request_places = c.request_places;
    wait_places = c.wait_places;
  }

  abbrev pub reply_queue_in : ℕ → ℕ → SizedReplies
  reply_queue_in s y = record { replies = replies_at m s y; places = c.reply_places }

  abbrev pub switch_in : ℕ → Switch
  switch_in n =
      let s : ℕ = stage_of c.stages n in
      let k : ℕ = index_of c.stages n in
      record {
        to_mm = ports (lane_in s (2 * k)) (lane_in s (2 * k + 1));
        to_pe = ports (reply_queue_in s (2 * k)) (reply_queue_in s (2 * k + 1));
      }

  abbrev pub element_in : ℕ → ProcessingElement
  element_in p = record {
    processor = record { site = site c p; core = (element_at m p).core };
    interface = record { interface = (element_at m p).interface; most_open = c.most_open };
    issued = (element_at m p).issued;
  }

-- unit i of a sort, if its home is block k
abbrev pub if_home : {X : Type 0} → List ℕ → ℕ → (ℕ → ℕ) → (ℕ → X) → ℕ → Option X
if_home partition k number unit i =
    elim (home partition (number i) == k) [ true ↦ Some (unit i) | false ↦ None ]

module _ (b : BlocksState) where
  abbrev d : ℕ
  d = b.config.stages

  abbrev pub first_block : ℕ → BlockState
  first_block k = record (empty_block d b.program) {
    done = b.machine.cycles;
    switches =
        places (switch_count d) (if_home b.partition k (λ n. n) (switch_in b.config b.machine));
    modules = places (2 ^ d) (if_home b.partition k (module_number d) (module_at b.machine));
    elements =
        places (2 ^ d) (if_home b.partition k (element_number d) (element_in b.config b.machine));
  }

  unfoldable pub first_blocks : List BlockState
  first_blocks = places b.count first_block

-- these are the blocks of a machine after n cycles
abbrev pub state_of : Settings → List Instr → List ℕ → ℕ → List BlockState → BlocksState
state_of c program partition n bs = record {
  config = c;
  program = program;
  partition = partition;
  count = length bs;
  machine = machine_in c partition n bs;
}
