-- the invariant of the hot requests, stage by stage: where they are on their way to memory and back, and what else there is
use Rattle.std.proofs.Common.{◌≡◌, ◌≢◌, ℕ, suc, ◌+◌, ◌-◌, ◌/◌, ◌<◌, List, [], ◌∷◌, Bool, true, false}
use Rattle.std.specs.Prelude.{Option, Some, None, IfSome, slice_get}
use Rattle.ultra_msg.specs.declared.{Request.Request, Reply.Reply, ReplyMessage.ReplyMessage}
use Rattle.ultra_route.specs.Route.{unshuffled, bit_of, with_lowest, line_of}
use Rattle.ultra_switch.specs.{declared.WaitRecord.WaitRecord, Arrive.{Lane, empty_lane}}
use Rattle.ultra_mem.specs.{declared.Placed.Placed, Serve.IsIdle}
use Rattle.ultra_pni.specs.Interface.{is_open}
use Rattle.ultra_model.specs.Machine.{Settings, Machine, size, last_stage, lane_at, replies_at, module_at, element_at}
use Rattle.ultra_model.specs.{Phases.reply_before, Routed.module_of}
use Rattle.ultra_serial_law.specs.HotCell.{leads_to, front, on_line, left_at, reached}
use Rattle.ultra_serial_law.proofs.Others.{AreOtherEntries, Keeps, IsAway}

-- ---- the lines of the hot requests
-- a PE-side position of the switch of a memory-side position
pub record IsPort (c : Settings) (x y : ℕ) : Type 0 where
  pub half : y / 2 ≡ x / 2
  pub small : y < size c

module _ (c : Settings) (a : ℕ) where
  -- the position by which a request for the cell leaves the switch of a PE-side position
  abbrev pub turned : ℕ → ℕ → ℕ
  turned s y = with_lowest y (bit_of (last_stage c - s) (module_of c a))

  -- whether a hot request comes by line x before stage s
  abbrev pub is_on : ℕ → ℕ → Bool
  is_on s x = leads_to c.stages (module_of c a) s x

  -- a processing element whose line to the cell is line x before stage s
  pub record IsOn (s x p : ℕ) : Type 0 where
    pub small : p < size c
    pub line : line_of c.stages s p (module_of c a) ≡ x

  -- it comes to the position that a port leads to, and a reply to it leaves by that port
  pub record GoesBy (s x y p : ℕ) : Type 0 where
    pub next : IsOn (s + 1) x p
    pub back : with_lowest x (bit_of (last_stage c - s) p) ≡ y

-- each processing element has asked for the cell
pub record IsAsked (c : Settings) (a : ℕ) (asked : ℕ → Request) : Type 0 where
  pub own : (p : ℕ) → p < size c → (asked p).pe ≡ p
  pub cell : (p : ℕ) → p < size c → (asked p).cell ≡ a

abbrev pub fronts : Settings → ℕ → (ℕ → Request) → ℕ → ℕ → Request
fronts c n asked s x = front c.stages n asked s x

-- ---- what else there is
-- no reply is on its way, and no module has anything to do
pub record IsSilent (c : Settings) (m : Machine) : Type 0 where
  pub replies : (t y : ℕ) → t < c.stages → y < size c → replies_at m t y ≡ []
  pub modules : (k : ℕ) → k < size c → IsIdle (module_at m k)

-- the processing elements have asked for the cell and wait, and the stages below b have no request for it
pub record IsClear (c : Settings) (a b : ℕ) (m : Machine) : Type 0 where
  pub queues : (t x : ℕ) → t < b → x < size c → AreOtherEntries a (lane_at m t x).queue
  pub interfaces : (p : ℕ) → p < size c → IsAway a (element_at m p).interface

-- no queue and no module has a request for the cell, and the processing elements wait
pub record IsCalm (c : Settings) (a : ℕ) (m : Machine) : Type 0 where
  pub clear : IsClear c a c.stages m
  pub inputs : (k : ℕ) → k < size c → IfSome (module_at m k).inp (λ (p : Placed). p.request.cell ≢ a)

abbrev pub placed : Settings → Request → Placed
placed c r = record { request = r; offset = r.cell / size c }

module _ (c : Settings) (a n : ℕ) (asked : ℕ → Request) where
  -- the hot request on a line, and the lane where it has just come to
  abbrev pub lines : ℕ → ℕ → Option Request
  lines s x = on_line c.stages n asked (module_of c a) s x

  abbrev pub hot_at : ℕ → ℕ → Lane
  hot_at s x = reached c.stages n asked (module_of c a) s x

  -- the records that it leaves at a place
  abbrev pub left_behind : ℕ → ℕ → List WaitRecord
  left_behind s x = left_at c.stages n asked (module_of c a) s x

  -- of the cell's records, the wait buffers of the stages below b have those that the hot requests have left there, at their fronts
  pub record HasLeft (b : ℕ) (m : Machine) : Type 0 where
    pub records : (t x : ℕ) → t < b → x < size c → Keeps a (left_behind t x) (lane_at m t x).records

  -- ---- to memory
  -- before it sets out
  pub record IsSet (m : Machine) : Type 0 where
    pub lanes : (t x : ℕ) → t < c.stages → x < size c → lane_at m t x ≡ empty_lane
    pub silent : IsSilent c m
    pub pending : (p : ℕ) → p < size c → (element_at m p).interface.pending ≡ asked p ∷ []
    pub opened : (p : ℕ) → p < size c → is_open a (element_at m p).interface.opened ≡ true

  -- it has just come to stage s: ahead of it, and beside it, all is empty
  pub record IsAtStage (s : ℕ) (m : Machine) : Type 0 where
    pub clear : IsClear c a s m
    pub left : HasLeft (suc s) m
    pub here : (x : ℕ) → x < size c → lane_at m s x ≡ hot_at s x
    pub ahead : (t x : ℕ) → s < t → t < c.stages → x < size c → lane_at m t x ≡ empty_lane
    pub silent : IsSilent c m

  -- what the module on the hot line holds
  abbrev pub held : ℕ → Option Placed
  held k = elim (is_on c a c.stages k) [ true ↦ Some (placed c (fronts c n asked c.stages k)) | false ↦ None ]

  -- it is before its module, and no other module has anything to do
  pub record IsInside (m : Machine) : Type 0 where
    pub clear : IsClear c a c.stages m
    pub left : HasLeft c.stages m
    pub inputs : (k : ℕ) → k < size c → (module_at m k).inp ≡ held k
    pub outputs : (k : ℕ) → k < size c → (module_at m k).out ≡ None
    pub replies : (t y : ℕ) → t < c.stages → y < size c → replies_at m t y ≡ []

  -- ---- and back
  -- a reply on a line of the hot requests answers the hot request there, and there is none on the other lines
  pub record IsReplyOn (s x : ℕ) (o : Option ReplyMessage) : Type 0 where
    pub on : is_on c a s x ≡ true → (v : Reply) × (o ≡ Some record { pe = (fronts c n asked s x).pe; cell = a; reply = v })
    pub off : is_on c a s x ≡ false → o ≡ None

  -- its reply is behind its module, and no other reply is behind a module
  pub record IsServed (m : Machine) : Type 0 where
    pub calm : IsCalm c a m
    pub left : HasLeft c.stages m
    pub outputs : (k : ℕ) → k < size c → IsReplyOn c.stages k (module_at m k).out
    pub replies : (t y : ℕ) → t < c.stages → y < size c → replies_at m t y ≡ []

  -- its replies are before stage s, whose queues are empty and whose wait buffers hold its records
  pub record AreComing (s : ℕ) (m : Machine) : Type 0 where
    pub come : (x : ℕ) → x < size c → IsReplyOn (s + 1) x (reply_before c m s x)
    pub room : (y : ℕ) → y < size c → replies_at m s y ≡ []
    pub records : (x : ℕ) → x < size c → Keeps a (left_behind s x) (lane_at m s x).records

  -- its replies are in the queues of stage s, and the stages on their way are empty
  pub record IsReturned (s : ℕ) (m : Machine) : Type 0 where
    pub calm : IsCalm c a m
    pub left : HasLeft s m
    pub here : (y : ℕ) → y < size c → IsReplyOn s (unshuffled c.stages y) (slice_get (replies_at m s y) 0)
    pub ahead : (t y : ℕ) → t < s → y < size c → replies_at m t y ≡ []
