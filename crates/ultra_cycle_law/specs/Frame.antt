-- a whole machine in the course of a cycle
use Rattle.std.specs.Prelude.{◌≡◌, ℕ, zero, suc, ◌+◌, ◌*◌, ◌^◌, ◌<◌, not, List, Option, None}
pub use Rattle.ultra_msg.specs.declared.{Request.Request, ReplyMessage.ReplyMessage}
pub use Rattle.ultra_switch.specs.declared.{Ports.Ports, Switch.Switch}
pub use Rattle.ultra_mem.specs.Serve.{ModuleState}
pub use Rattle.ultra_unit_steps.specs.declared.elements.ProcessingElement.{ProcessingElement}
use Rattle.ultra_cycle_law.specs.Prelude.{has_reply_room, has_request_room, is_nothing, switch_count, module_number}
use Rattle.ultra_topology.specs.Set.{has_unit}

-- what there is at the two ports of a switch
abbrev pub at_port : {X : Type 0} → Ports X → ℕ → X
at_port p zero = p.zero
at_port p (suc n) = p.one

-- its units: switches by their numbers over all stages, modules, and processing elements; and what
-- is on its links, by their numbers
pub record Frame : Type 0 where
  pub switch : ℕ → Switch
  pub memory_module : ℕ → ModuleState
  pub element : ℕ → ProcessingElement
  pub replies : ℕ → Option ReplyMessage
  pub requests : ℕ → Option Request

-- of a machine of d stages; what a frame has at other numbers doesn't matter
module _ (d : ℕ) where
  -- these are the switches without room for replies
  abbrev pub AreClosedToReplies : Frame → List ℕ → Type 0
  AreClosedToReplies f closed =
      (n : ℕ) → n < switch_count d → not (has_unit closed n) ≡ has_reply_room (f.switch n)

  -- these are, by the memory-side port, the switches whose queue there has no room for requests; in
  -- `zero` also the modules whose register holds one
  pub record AreClosedToRequests (f : Frame) (closed : Ports (List ℕ)) : Type 0 where
    pub switches : (n j : ℕ) → n < switch_count d → j < 2
        → not (has_unit (at_port closed j) n) ≡ at_port (has_request_room (f.switch n)) j
    pub modules : (m : ℕ) → m < 2 ^ d
        → not (has_unit closed.zero (module_number d m)) ≡ is_nothing (f.memory_module m).inp

  -- two frames have the same units, and the same on their links
  pub record AreAlike (f g : Frame) : Type 0 where
    pub switches : (n : ℕ) → n < switch_count d → f.switch n ≡ g.switch n
    pub modules : (m : ℕ) → m < 2 ^ d → f.memory_module m ≡ g.memory_module m
    pub elements : (p : ℕ) → p < 2 ^ d → f.element p ≡ g.element p
    pub replies : (l : ℕ) → l < (d + 1) * 2 ^ d → f.replies l ≡ g.replies l
    pub requests : (l : ℕ) → l < (d + 1) * 2 ^ d → f.requests l ≡ g.requests l

  -- no message is on a link
  pub record IsClear (f : Frame) : Type 0 where
    pub replies : (l : ℕ) → l < (d + 1) * 2 ^ d → f.replies l ≡ None
    pub requests : (l : ℕ) → l < (d + 1) * 2 ^ d → f.requests l ≡ None
