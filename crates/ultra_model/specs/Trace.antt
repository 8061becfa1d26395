-- the trace: what is written of a run, cycle by cycle; this project's profile
use Rattle.std.specs.Prelude.{ℕ, zero, suc, ◌+◌, ◌-◌, ◌*◌, ◌/◌, ◌%◌, List, [], ◌∷◌, ◌++◌, Bool, true, false, Option, Some, None, slice_index, codes, decimal}
use Rattle.std.specs.{List.{range_with_len, flat_map, find}, Option.unwrap_or}
use Rattle.ultra_msg.specs.declared.{Request.Request, ReplyMessage.ReplyMessage, Event.{Event, TheVariants.{Delivered, Served, Combined, Issued}}}
use Rattle.ultra_switch.specs.declared.{QueueEntry.QueueEntry, WaitRecord.WaitRecord}
use Rattle.ultra_mem.specs.declared.Placed.{Placed}
use Rattle.ultra_isa.specs.{declared.Instr.Instr, Step.Core}
use Rattle.ultra_model.specs.{declared.Stop.Stop, Phases.after}
use Rattle.ultra_model.specs.Machine.{Settings, Machine, size, lane_at, replies_at, module_at, element_at, is_quiet}
use Rattle.ultra_model.specs.Text.{newline, request_text, entry_text, reply_text, message_text, record_text, fault_text, activity_text, comma_separated}

-- ---- what happened in the cycle
-- a reply was delivered
abbrev pub got_line : Event → List ℕ
got_line (Delivered m) = codes "got " ++ message_text m ++ newline
got_line (Served k r v now) = []
got_line (Combined s x a old new first) = []
got_line (Issued r n) = []

-- a module has served a request
abbrev pub act_line : Event → List ℕ
act_line (Delivered m) = []
act_line (Served k r v now) =
    codes "act " ++ decimal k ++ codes " " ++ request_text r ++ codes " = " ++ reply_text v
    ++ codes " now " ++ decimal now ++ newline
act_line (Combined s x a old new first) = []
act_line (Issued r n) = []

-- a processing element has faulted
abbrev pub fault_line : Stop → List ℕ
fault_line s = codes "fault " ++ decimal s.pe ++ codes " " ++ fault_text s.fault ++ newline

-- ---- what is where after the cycle; an empty queue, buffer or register has no line
abbrev pub place_line : {X : Type 0} → List ℕ → (X → List ℕ) → List X → List ℕ
place_line name text [] = []
place_line name text (x ∷ xs) = name ++ codes ": " ++ comma_separated text (x ∷ xs) ++ newline

-- a register holds one or none
abbrev pub held : {X : Type 0} → Option X → List X
held None = []
held (Some x) = x ∷ []

-- how a line begins that belongs to a module or a processing element, and one that belongs to a
-- position of a stage
abbrev pub unit_name : List ℕ → ℕ → List ℕ
unit_name word k = word ++ codes " " ++ decimal k

abbrev pub stage_name : List ℕ → ℕ → ℕ → List ℕ
stage_name word s x = word ++ codes " " ++ decimal s ++ codes " " ++ decimal x

abbrev pub pni_line : ℕ → List Request → List ℕ
pni_line p rs = place_line (unit_name (codes "pni") p) request_text rs

abbrev pub req_line : ℕ → ℕ → List QueueEntry → List ℕ
req_line s x es = place_line (stage_name (codes "req") s x) entry_text es

abbrev pub wait_line : ℕ → ℕ → List WaitRecord → List ℕ
wait_line s x ws = place_line (stage_name (codes "wait") s x) record_text ws

abbrev pub inp_line : ℕ → Option Placed → List ℕ
inp_line k o =
    place_line (unit_name (codes "inp") k) (λ (p : Placed). request_text p.request) (held o)

abbrev pub out_line : ℕ → Option ReplyMessage → List ℕ
out_line k o = place_line (unit_name (codes "out") k) message_text (held o)

abbrev pub rep_line : ℕ → ℕ → List ReplyMessage → List ℕ
rep_line s y ms = place_line (stage_name (codes "rep") s y) message_text ms

-- ---- lines by number, and by stage, then position
abbrev pub by_number : ℕ → (ℕ → List ℕ) → List ℕ
by_number n line = flat_map line (range_with_len 0 n)

abbrev pub by_stage : Settings → (ℕ → ℕ → List ℕ) → List ℕ
by_stage c line = by_number c.stages (λ s. by_number (size c) (λ x. line s x))

-- the lines of one processing element, of one position of a stage, and of one module
abbrev pub pni_lines : Machine → ℕ → List ℕ
pni_lines m p = pni_line p (element_at m p).interface.pending

abbrev pub req_lines : Machine → ℕ → ℕ → List ℕ
req_lines m s x = req_line s x (lane_at m s x).queue

abbrev pub wait_lines : Machine → ℕ → ℕ → List ℕ
wait_lines m s x = wait_line s x (lane_at m s x).records

abbrev pub inp_lines : Machine → ℕ → List ℕ
inp_lines m k = inp_line k (module_at m k).inp

abbrev pub out_lines : Machine → ℕ → List ℕ
out_lines m k = out_line k (module_at m k).out

abbrev pub rep_lines : Machine → ℕ → ℕ → List ℕ
rep_lines m s y = rep_line s y (replies_at m s y)

-- ---- one cycle, after which this is the machine
-- what happened in the cycle
abbrev pub events_text : List Event → List Stop → List ℕ
events_text events stops =
    flat_map got_line events ++ flat_map act_line events ++ flat_map fault_line stops

-- what is where after the cycle
abbrev pub state_text : Settings → Machine → List ℕ
state_text c m =
    by_number (size c) (pni_lines m)
    ++ by_stage c (req_lines m)
    ++ by_stage c (wait_lines m)
    ++ by_number (size c) (inp_lines m)
    ++ by_number (size c) (out_lines m)
    ++ by_stage c (rep_lines m)

-- the line that names the cycle
abbrev pub cycle_line : Machine → List ℕ
cycle_line m = codes "cycle " ++ decimal (m.cycles - 1) ++ newline

unfoldable pub cycle_text : Settings → Machine → List ℕ
cycle_text c m = cycle_line m ++ events_text m.events m.stops ++ state_text c m

-- ---- the end
abbrev pub ending_text : Bool → List ℕ
ending_text true = codes "end quiet"
ending_text false = codes "end limit"

-- what is written of a value that isn't 0
abbrev pub unless_zero : ℕ → List ℕ → List ℕ
unless_zero zero text = []
unless_zero (suc n) text = text

abbrev pub cell_line : ℕ → ℕ → List ℕ
cell_line a v = unless_zero v (codes "cell " ++ decimal a ++ codes " " ++ decimal v ++ newline)

abbrev pub register_text : ℕ → ℕ → List ℕ
register_text i v = unless_zero v (codes " r" ++ decimal i ++ codes "=" ++ decimal v)

-- all sixteen registers
unfoldable pub registers_text : List ℕ → List ℕ
registers_text values = by_number 16 (λ i. register_text i (slice_index values i))

abbrev pub pe_line : ℕ → Core → List ℕ
pe_line p e =
    codes "pe " ++ decimal p ++ codes " " ++ activity_text e.activity ++ codes " " ++ decimal e.pc
    ++ registers_text e.registers ++ newline

-- the value of the cell at an address: it lies in the module that the address modulo N names
abbrev pub cell_value : Settings → Machine → ℕ → ℕ
cell_value c m a = slice_index (module_at m (a % size c)).cells (a / size c)

abbrev pub cell_lines : Settings → Machine → ℕ → List ℕ
cell_lines c m a = cell_line a (cell_value c m a)

abbrev pub pe_lines : Machine → ℕ → List ℕ
pe_lines m p = pe_line p (element_at m p).core

unfoldable pub end_text : Settings → Machine → List ℕ
end_text c m =
    ending_text (is_quiet m) ++ newline ++ by_number (size c * c.cells) (cell_lines c m)
    ++ by_number (size c) (pe_lines m)

-- ---- the whole
-- the line that names the format
abbrev pub first_line : List ℕ
first_line = codes "ultra trace 2" ++ newline

module _ (c : Settings) (program : List Instr) where
  -- how many cycles the trace has: up to the first after which the machine is quiet, or else as
  -- many as the settings allow
  unfoldable pub cycle_count : ℕ
  cycle_count =
      unwrap_or (find (λ n. is_quiet (after c program n)) (range_with_len 1 c.cycles)) c.cycles

  abbrev pub cycles_text : ℕ → List ℕ
  cycles_text n = by_number n (λ k. cycle_text c (after c program (k + 1)))

  unfoldable pub all_cycles_text : List ℕ
  all_cycles_text = cycles_text cycle_count

  -- the machine at the end
  unfoldable pub last_state : Machine
  last_state = after c program cycle_count

  unfoldable pub trace : List ℕ
  trace = first_line ++ all_cycles_text ++ end_text c last_state
