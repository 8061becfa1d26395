-- a whole machine cut into blocks, as contracts see it
use Rattle.std.specs.Prelude.{◌≡◌, ℕ, ◌+◌, ◌≤◌, List, length}
use Rattle.ultra_isa.specs.declared.Instr.{Instr}
use Rattle.ultra_model.specs.{Machine.{Settings, Machine}, Phases.cycle, declared.Stop.Stop}
use Rattle.ultra_partition.specs.{Cut.BlockState, Events.{event_rank, event_rank_count}, Moments.{AreWhole, machine_in}, Merging.{Remainder, merged}}
use Rattle.ultra_msg.specs.declared.Event.{Event}
use Rattle.ultra_block.specs.declared.{blocks.Parts.Parts, ranks.{ByElement.ByElement, ByRules.ByRules}}

-- its settings, its program, the block of each unit, how many blocks there are, and the machine of
-- the definition, which is the same for every partition
pub record BlocksState : Type 0 where
  pub config : Settings
  pub program : List Instr
  pub partition : List ℕ
  pub count : ℕ
  pub machine : Machine

-- what the parts of a machine are, put together between two cycles
abbrev pub put_together : Parts → BlocksState
put_together p = record {
  config = p.config;
  program = p.program;
  partition = p.partition.items;
  count = length p.blocks.items;
  machine = machine_in p.config p.partition.items p.done p.blocks.items;
}

-- they may be put together
pub record AreParts (p : Parts) : Type 0 where
  pub whole : AreWhole p.config p.program p.partition.items p.done p.blocks.items
  pub few : length p.blocks.items ≤ 64

-- blocks are whole after n cycles, and make up machine m
abbrev pub MakeUp : Settings → List Instr → List ℕ → ℕ → Machine → List BlockState → Type 0
MakeUp c program partition n m bs =
    AreWhole c program partition n bs × (machine_in c partition n bs ≡ m)

-- the events and the faults that are still to come
abbrev pub events_left : Remainder ByRules Event → List Event
events_left m = merged (event_rank m.ranking.net) event_rank_count m.lists

abbrev pub stops_left : Remainder ByElement Stop → List Stop
stops_left m = merged (λ (s : Stop). s.pe) 64 m.lists

-- blocks that were the whole machine after n cycles have made the next cycle of the definition
abbrev pub MakesCycle : Settings → List ℕ → ℕ → List BlockState → List BlockState → Type 0
MakesCycle c partition n old now =
    (program : List Instr) → AreWhole c program partition n old
    → MakeUp c program partition (n + 1) (cycle c program (machine_in c partition n old)) now
