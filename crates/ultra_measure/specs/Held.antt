-- what a machine holds, as numbers: for each a value by the number of a processing element, a
-- module or a position
use Rattle.std.specs.Prelude.{ℕ, List, not, length, ◌&&◌, ◌==◌, nat_lt}
use Rattle.ultra_isa.specs.{declared.Instr.Instr, Step.{has_stopped, is_stall}}
use Rattle.ultra_model.specs.Machine.{Settings, Machine, lane_at, replies_at, module_at, element_at}
use Rattle.ultra_model.specs.{Phases.step_at, Balance.weight}
use Rattle.ultra_block.specs.{IsSetOf, Held.{Held, TheVariants.{Reply, Request, Record}}, Holding.holds, State.BlocksState}
use Rattle.ultra_block_core.specs.Holding.{module_holds}

abbrev pub running : Machine → ℕ → ℕ
running m p = weight (not (has_stopped (element_at m p).core.activity))

-- its next step would stall, as the machine is now; one that has stopped doesn't stall
abbrev pub stalled : Settings → List Instr → Machine → ℕ → ℕ
stalled c program m p = weight (is_stall (step_at c program m p).was)

abbrev pub opened : Machine → ℕ → ℕ
opened m p = length (element_at m p).interface.opened

abbrev pub pending : Machine → ℕ → ℕ
pending m p = length (element_at m p).interface.pending

-- whether a module holds something of a kind: a request that waits to be served, or a reply that
-- waits to leave
abbrev pub held_in_module : Held → Machine → ℕ → ℕ
held_in_module held m k = weight (module_holds held (module_at m k))

abbrev pub waiting_in : Machine → ℕ → ℕ
waiting_in = held_in_module Request

abbrev pub waiting_out : Machine → ℕ → ℕ
waiting_out = held_in_module Reply

abbrev pub requests : ℕ → Machine → ℕ → ℕ
requests s m x = length (lane_at m s x).queue

abbrev pub replies : ℕ → Machine → ℕ → ℕ
replies s m y = length (replies_at m s y)

abbrev pub records : ℕ → Machine → ℕ → ℕ
records s m x = length (lane_at m s x).records

-- whether all places are taken; what has no place is never full
abbrev pub is_full : ℕ → ℕ → ℕ
is_full places held = weight (nat_lt 0 places && (held == places))

-- ---- what a position of a stage holds of a kind
abbrev pub held_at : Held → ℕ → Machine → ℕ → ℕ
held_at Request = requests
held_at Record = records
held_at Reply = replies

-- how many places it has there, where it is counted once all are taken: only wait buffers are
abbrev pub wait_places_of : Settings → Held → ℕ
wait_places_of c Request = 0
wait_places_of c Record = c.wait_places
wait_places_of c Reply = 0

-- whether all of them are taken
abbrev pub full_at : Settings → Held → ℕ → Machine → ℕ → ℕ
full_at c held s m x = is_full (wait_places_of c held) (held_at held s m x)

-- a wait buffer that holds as many records as it has places
abbrev pub full_waits : Settings → ℕ → Machine → ℕ → ℕ
full_waits c s m x = full_at c Record s m x

-- the set has exactly the units that hold it
abbrev pub AreUnitsWith : BlocksState → Held → List ℕ → Type 0
AreUnitsWith b held units = IsSetOf (holds b.config.stages b.machine held) units
