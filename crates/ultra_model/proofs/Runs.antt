-- what worked runs speak of: what happened in the first cycles of a run, in which cycle, and what
-- is where between two cycles
use Rattle.std.specs.Prelude.{ℕ, zero, suc, ◌*◌, ◌%◌, ◌/◌, List, [], ◌∷◌, ◌++◌, Bool, true, false, map, Option, Some, None, slice_index}
use Rattle.std.specs.List.{filter, range_with_len}
use Rattle.ultra_msg.specs.declared.{Request.Request, Op.Op, Give.Give, Reply.Reply, ReplyMessage.ReplyMessage, Event.{Event, TheVariants.{Delivered, Served, Combined, Issued}}}
use Rattle.ultra_switch.specs.{declared.{QueueEntry.QueueEntry, WaitRecord.WaitRecord}, Arrive.{Lane, entry}}
use Rattle.ultra_mem.specs.{declared.Placed.Placed, Serve.ModuleState}
use Rattle.ultra_isa.specs.declared.{Instr.Instr, Activity.Activity}
use Rattle.ultra_model.specs.Machine.{Settings, Machine, Element, size, module_at, is_quiet}
use Rattle.ultra_model.specs.Phases.{after}

-- settings by their stages, the places of the three kinds of buffers, the most open cells and the cells that are not 0 at first
abbrev pub settings : ℕ → ℕ → ℕ → ℕ → ℕ → List (ℕ × ℕ) → Settings
settings d q r w k initial = record { stages = d; request_places = q; reply_places = r; wait_places = w; most_open = k; cells = 16; cycles = 1000; initial = initial }

abbrev pub request : ℕ → ℕ → Op → Request
request p a o = record { pe = p; cell = a; op = o }

abbrev pub message : ℕ → ℕ → Reply → ReplyMessage
message p a r = record { pe = p; cell = a; reply = r }

-- an entry of a queue that has not combined there, and one that has
abbrev pub single : ℕ → ℕ → Op → QueueEntry
single p a o = entry (request p a o) false

abbrev pub marked : ℕ → ℕ → Op → QueueEntry
marked p a o = entry (request p a o) true

abbrev pub kept : ℕ → ℕ → Give → ℕ → Give → WaitRecord
kept p a old q new = record { pe = p; cell = a; give_old = old; partner = q; give_new = new }

-- ---- what happened, and in which cycle
pub record Dated : Type 0 where
  pub cycle : ℕ
  pub event : Event

abbrev pub got : ℕ → ℕ → ℕ → Reply → Dated
got n p a r = record { cycle = n; event = Delivered (message p a r) }

abbrev pub act : ℕ → ℕ → Request → Reply → ℕ → Dated
act n k r answer now = record { cycle = n; event = Served k r answer now }

abbrev pub meeting : ℕ → ℕ → ℕ → ℕ → ℕ → ℕ → Bool → Dated
meeting n s x a old new old_first = record { cycle = n; event = Combined s x a old new old_first }

abbrev pub issuing : ℕ → Request → ℕ → Dated
issuing n r number = record { cycle = n; event = Issued r number }

abbrev pub is_delivery : Dated → Bool
is_delivery d = elim d.event [ Delivered m ↦ true | Served k r v w ↦ false | Combined s x a p q o ↦ false | Issued r i ↦ false ]

abbrev pub is_act : Dated → Bool
is_act d = elim d.event [ Delivered m ↦ false | Served k r v w ↦ true | Combined s x a p q o ↦ false | Issued r i ↦ false ]

abbrev pub is_meeting : Dated → Bool
is_meeting d = elim d.event [ Delivered m ↦ false | Served k r v w ↦ false | Combined s x a p q o ↦ true | Issued r i ↦ false ]

abbrev pub is_issue : Dated → Bool
is_issue d = elim d.event [ Delivered m ↦ false | Served k r v w ↦ false | Combined s x a p q o ↦ false | Issued r i ↦ true ]

abbrev pub if_quiet : ℕ → Bool → List ℕ
if_quiet n true = n ∷ []
if_quiet n false = []

module _ (c : Settings) (program : List Instr) where
  -- all events of the first n cycles
  abbrev pub history : ℕ → List Dated
  history zero = []
  history (suc n) = history n ++ map (λ (e : Event). record { cycle = n; event = e }) (after c program (suc n)).events

  -- those cycles among the first n after which the machine is quiet
  abbrev pub quiet_cycles : ℕ → List ℕ
  quiet_cycles zero = []
  quiet_cycles (suc n) = quiet_cycles n ++ if_quiet n (is_quiet (after c program (suc n)))

-- ---- what is where; places that are empty are left out
pub data Holding : Type 0 where
  pending : ℕ → List Request → Holding
  queued : ℕ → ℕ → List QueueEntry → Holding
  waiting : ℕ → ℕ → List WaitRecord → Holding
  entering : ℕ → Request → Holding
  leaving : ℕ → ReplyMessage → Holding
  replying : ℕ → ℕ → List ReplyMessage → Holding

abbrev pub if_any : {X : Type 0} → (List X → Holding) → List X → List Holding
if_any f [] = []
if_any f (x ∷ xs) = f (x ∷ xs) ∷ []

abbrev pub if_some : {X : Type 0} → (X → Holding) → Option X → List Holding
if_some f None = []
if_some f (Some x) = f x ∷ []

-- what f gives for each of a list with its number, from k on
abbrev pub by_number : {X Y : Type 0} → (ℕ → X → List Y) → ℕ → List X → List Y
by_number f k [] = []
by_number f k (x ∷ xs) = f k x ++ by_number f (suc k) xs

abbrev pub holdings : Machine → List Holding
holdings m =
    by_number (λ p (e : Element). if_any (pending p) e.interface.pending) 0 m.elements
    ++ by_number (λ s (row : List Lane). by_number (λ x (l : Lane). if_any (queued s x) l.queue) 0 row) 0 m.lanes
    ++ by_number (λ s (row : List Lane). by_number (λ x (l : Lane). if_any (waiting s x) l.records) 0 row) 0 m.lanes
    ++ by_number (λ k (b : ModuleState). if_some (λ (p : Placed). entering k p.request) b.inp) 0 m.modules
    ++ by_number (λ k (b : ModuleState). if_some (leaving k) b.out) 0 m.modules
    ++ by_number (λ s (row : List (List ReplyMessage)). by_number (λ y rs. if_any (replying s y) rs) 0 row) 0 m.replies

-- numbers that are not 0, with where they are
abbrev pub if_not_zero : ℕ → ℕ → List (ℕ × ℕ)
if_not_zero k zero = []
if_not_zero k (suc v) = (k, suc v) ∷ []

-- the cells that are not 0, by address
abbrev pub nonzero_cells : Settings → Machine → List (ℕ × ℕ)
nonzero_cells c m = by_number (λ a v. if_not_zero a v) 0 (map (λ a. slice_index (module_at m (a % size c)).cells (a / size c)) (range_with_len 0 (size c * c.cells)))

-- a processor: its program counter, what it is doing, and its registers that are not 0
pub record Stand : Type 0 where
  pub activity : Activity
  pub pc : ℕ
  pub registers : List (ℕ × ℕ)

abbrev pub stand : Activity → ℕ → List (ℕ × ℕ) → Stand
stand activity pc registers = record { activity = activity; pc = pc; registers = registers }

abbrev pub stands : Machine → List Stand
stands m = map (λ (e : Element). stand e.core.activity e.core.pc (by_number (λ i v. if_not_zero i v) 0 e.core.registers)) m.elements

-- what happened in the first n cycles, after which of them the machine is quiet, and how it is
-- after them
pub record Summary : Type 0 where
  pub issues : List Dated
  pub meetings : List Dated
  pub acts : List Dated
  pub deliveries : List Dated
  pub quiet : List ℕ
  pub cells : List (ℕ × ℕ)
  pub stands : List Stand

abbrev pub summary : Settings → List Instr → ℕ → Summary
summary c program n = record {
  issues = filter (λ d. is_issue d) (history c program n);
  meetings = filter (λ d. is_meeting d) (history c program n);
  acts = filter (λ d. is_act d) (history c program n);
  deliveries = filter (λ d. is_delivery d) (history c program n);
  quiet = quiet_cycles c program n;
  cells = nonzero_cells c (after c program n);
  stands = stands (after c program n);
}
