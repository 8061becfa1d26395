-- the whole machine between two cycles. Its parts are those of the 1983 paper's enhanced Omega
-- network; their registers and limits are this project's profile
use Rattle.std.specs.Prelude.{ℕ, ◌+◌, ◌-◌, ◌*◌, ◌%◌, ◌^◌, List, [], ◌∷◌, Bool, true, false, ◌&&◌, ◌==◌, Option, Some, None, slice_index_or}
use Rattle.std.specs.List.{list_all}
use Rattle.ultra_msg.specs.declared.{Request.Request, ReplyMessage.ReplyMessage, Event.Event}
use Rattle.ultra_route.specs.Route.{with_lowest, bit_of}
use Rattle.ultra_switch.specs.Arrive.{Lane, empty_lane}
use Rattle.ultra_mem.specs.Serve.{ModuleState, empty_module}
use Rattle.ultra_pni.specs.Interface.{Interface, empty_interface}
use Rattle.ultra_isa.specs.{Instruction.Site, Step.{Core, fresh_core, has_stopped}}
use Rattle.ultra_model.specs.{declared.Stop.Stop, Places.{places, table, in_table}}

-- the settings: the stages of the network, and the places of each queue toward memory, of each
-- queue toward the processing elements and of each wait buffer. Then the maximum number of open
-- cells per processing element, the cells of a module, the most cycles, and the cells that are not
-- 0 at first, with their values
pub record Settings : Type 0 where
  pub stages : ℕ
  pub request_places : ℕ
  pub reply_places : ℕ
  pub wait_places : ℕ
  pub most_open : ℕ
  pub cells : ℕ
  pub cycles : ℕ
  pub initial : List (ℕ × ℕ)

-- a processing element: its processor, its interface, and how many requests it has issued
pub record Element : Type 0 where
  pub core : Core
  pub interface : Interface
  pub issued : ℕ

abbrev pub fresh_element : Element
fresh_element = record { core = fresh_core; interface = empty_interface; issued = 0 }

-- the machine: for each stage and memory-side position the queue toward memory with its wait
-- buffer, and for each stage and PE-side position the queue toward the processing elements. Then
-- the modules, the processing elements, the count of cycles, and what happened in the last cycle
pub record Machine : Type 0 where
  pub lanes : List (List Lane)
  pub replies : List (List (List ReplyMessage))
  pub modules : List ModuleState
  pub elements : List Element
  pub cycles : ℕ
  pub events : List Event
  pub stops : List Stop

-- the value of an address in a list of addresses with their values: the last that is given, or else
-- the default
abbrev pub given_value : List (ℕ × ℕ) → ℕ → ℕ → ℕ
given_value [] a v = v
given_value (i ∷ is) a v = given_value is a (elim (i.0 == a) [ true ↦ i.1 | false ↦ v ])

module _ (c : Settings) where
  -- how many processing elements, modules and positions of a stage there are
  abbrev pub size : ℕ
  size = 2 ^ c.stages

  abbrev pub last_stage : ℕ
  last_stage = c.stages - 1

  abbrev pub site : ℕ → Site
  site p = record { pe = p; size = size; all_cells = size * c.cells }

  -- the memory-side position by which a request that entered a stage at y leaves it, and the
  -- PE-side position by which a reply that came at x does
  abbrev pub request_exit : ℕ → ℕ → Request → ℕ
  request_exit s y r = with_lowest y (bit_of (last_stage - s) (r.cell % size))

  abbrev pub reply_exit : ℕ → ℕ → ReplyMessage → ℕ
  reply_exit s x r = with_lowest x (bit_of (last_stage - s) r.pe)

  -- all is empty at first, but for the cells
  unfoldable pub start : Machine
  start = record {
    lanes = table c.stages size (λ s x. empty_lane);
    replies = table c.stages size (λ s y. []);
    modules =
        places size
        (λ m. record {
          cells = places c.cells (λ o. given_value c.initial (o * size + m) 0);
          inp = None;
          out = None;
        });
    elements = places size (λ p. fresh_element);
    cycles = 0;
    events = [];
    stops = [];
  }

-- the parts of a machine: by stage and position, or by the number of a module or a processing
-- element
abbrev pub lane_at : Machine → ℕ → ℕ → Lane
lane_at m s x = in_table empty_lane m.lanes s x

abbrev pub replies_at : Machine → ℕ → ℕ → List ReplyMessage
replies_at m s y = in_table [] m.replies s y

abbrev pub module_at : Machine → ℕ → ModuleState
module_at m k = slice_index_or m.modules k empty_module

abbrev pub element_at : Machine → ℕ → Element
element_at m p = slice_index_or m.elements p fresh_element

-- quiet: every processing element has halted or faulted, and nothing is on its way or open
abbrev pub is_empty : {X : Type 0} → List X → Bool
is_empty [] = true
is_empty (x ∷ xs) = false

abbrev pub is_nothing : {X : Type 0} → Option X → Bool
is_nothing None = true
is_nothing (Some x) = false

abbrev pub is_quiet : Machine → Bool
is_quiet m =
    list_all (λ (ls : List Lane). list_all
    (λ (l : Lane). is_empty l.queue && is_empty l.records) ls) m.lanes
    && list_all (λ (qs : List (List ReplyMessage)). list_all
    (λ (q : List ReplyMessage). is_empty q) qs) m.replies
    && list_all (λ (b : ModuleState). is_nothing b.inp && is_nothing b.out) m.modules
    && list_all (λ (e : Element). has_stopped e.core.activity && is_empty e.interface.opened
    && is_empty e.interface.pending) m.elements
