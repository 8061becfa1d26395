-- many references to one cell, served as one: what combining is for. The combining network is the
-- 1983 paper's; the counts of cycles are this project's profile
use Rattle.std.specs.Prelude.{◌≡◌, ◌<◌, ◌≤◌, ◌+◌, ◌*◌, ℕ, List, [], ◌∷◌, ◌++◌, ◌==◌, if◌then◌else◌}
use Rattle.std.specs.List.{Contains}
use Rattle.ultra_msg.specs.declared.{Request.Request, Reply.Reply, Event.{Event, TheVariants.{Delivered, Served, Combined, Issued}}}
use Rattle.ultra_switch.specs.Arrive.{empty_lane}
use Rattle.ultra_mem.specs.Serve.{IsIdle}
use Rattle.ultra_isa.specs.declared.Instr.{Instr, TheVariants.Faa}
use Rattle.ultra_model.specs.Machine.{Settings, Machine, size, lane_at, replies_at, module_at, element_at}
use Rattle.ultra_model.specs.{Phases.after, Ranges.AreInRange}

-- the requests for cell a that the memory serves in these events
abbrev pub act_on : ℕ → Event → List Request
act_on a (Delivered r) = []
act_on a (Served k r reply now) = if r.cell == a then r ∷ [] else []
act_on a (Combined s x b p q f) = []
act_on a (Issued r n) = []

abbrev pub acts_on : ℕ → List Event → List Request
acts_on a [] = []
acts_on a (e ∷ es) = act_on a e ++ acts_on a es

-- all queues, wait buffers and modules are empty, and each processing element has one request that
-- is not yet in the network, for cell a
pub record AreAllAt (c : Settings) (a : ℕ) (m : Machine) : Type 0 where
  pub lanes : (s x : ℕ) → s < c.stages → x < size c → lane_at m s x ≡ empty_lane
  pub replies : (s y : ℕ) → s < c.stages → y < size c → replies_at m s y ≡ []
  pub idle : (k : ℕ) → k < size c → IsIdle (module_at m k)
  pub one_each : (p : ℕ) → p < size c
      → (r : Request) × ((element_at m p).interface.pending ≡ r ∷ []) × (r.cell ≡ a)

module _ (c : Settings) (program : List Instr) (n a : ℕ) where
  -- what happens in the cycle that is k after cycle n
  abbrev pub later_events : ℕ → List Event
  later_events k = (after c program (n + k + 1)).events

  -- in the cycles from n to n + 2d + 2 the memory serves one request for the cell, in cycle n + d +
  -- 1. In the last of them each processing element is answered
  pub record AreServedAtOnce (served : Request) : Type 0 where
    pub once : (k : ℕ) → k ≤ 2 * c.stages + 2
        → acts_on a (later_events k) ≡ (if k == c.stages + 1 then served ∷ [] else [])
    pub answered : (p : ℕ) → p < size c
        → (v : Reply)
        × Contains (later_events (2 * c.stages + 2))
        (Delivered record { pe = p; cell = a; reply = v })

-- for all settings in their ranges with a place in each wait buffer, every program, and whenever
-- all processing elements have asked for one cell
abbrev pub HotCellLaw : Type 0
HotCellLaw =
    (c : Settings) → AreInRange c → 1 ≤ c.wait_places → (program : List Instr) (n a : ℕ)
    → AreAllAt c a (after c program n)
    → (served : Request) × AreServedAtOnce c program n a served

-- all processing elements do ask for one cell at once, for all settings in their ranges and every
-- program that begins with a reference to cell 0: after the first cycle
abbrev pub HotCellOccurs : Type 0
HotCellOccurs =
    (c : Settings) → AreInRange c → (rest : List Instr)
    → AreAllAt c 0 (after c (Faa 1 0 0 ∷ rest) 1)
