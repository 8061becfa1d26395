-- every message is on its route. The routes are those of the 1983 paper's Omega network
use Rattle.std.specs.Prelude.{◌≡◌, ℕ, ◌+◌, ◌*◌, ◌/◌, ◌%◌, ◌<◌, IfSome}
use Rattle.std.specs.List.{AllByRecursion}
use Rattle.ultra_msg.specs.declared.{Request.Request, ReplyMessage.ReplyMessage}
use Rattle.ultra_route.specs.Route.{line_of, entry_of}
use Rattle.ultra_switch.specs.declared.{QueueEntry.QueueEntry, WaitRecord.WaitRecord}
use Rattle.ultra_mem.specs.declared.Placed.{Placed}
use Rattle.ultra_pni.specs.declared.OpenCell.{OpenCell}
use Rattle.ultra_model.specs.Machine.{Settings, Machine, size, lane_at, replies_at, module_at, element_at}

module _ (c : Settings) where
  -- a processing element and a cell that the machine has
  pub record IsReference (p a : ℕ) : Type 0 where
    pub element : p < size c
    pub cell : a < size c * c.cells

  -- the module of a cell
  abbrev pub module_of : ℕ → ℕ
  module_of a = a % size c

  -- the line between p and the module of a passes through memory-side position x of stage s
  pub record IsByLine (s x p a : ℕ) : Type 0 where
    pub reference : IsReference p a
    pub line : line_of c.stages (s + 1) p (module_of a) ≡ x

  -- it passes through PE-side position y of stage s
  pub record IsByEntry (s y p a : ℕ) : Type 0 where
    pub reference : IsReference p a
    pub entry : entry_of c.stages s p (module_of a) ≡ y

  -- it ends at module k
  pub record IsAtModule (k p a : ℕ) : Type 0 where
    pub reference : IsReference p a
    pub home : module_of a ≡ k

  -- the request of a queue toward memory, and both requests of a record
  abbrev pub IsEntryAt : ℕ → ℕ → QueueEntry → Type 0
  IsEntryAt s x e = IsByLine s x e.request.pe e.request.cell

  abbrev pub IsRecordAt : ℕ → ℕ → WaitRecord → Type 0
  IsRecordAt s x w = IsByLine s x w.pe w.cell × IsByLine s x w.partner w.cell

  abbrev pub IsReplyAt : ℕ → ℕ → ReplyMessage → Type 0
  IsReplyAt s y r = IsByEntry s y r.pe r.cell

  -- a request that a module holds is for one of its cells
  abbrev pub IsPlacedAt : ℕ → Placed → Type 0
  IsPlacedAt k p = IsAtModule k p.request.pe p.request.cell × (p.offset ≡ p.request.cell / size c)

  abbrev pub IsReplyOf : ℕ → ReplyMessage → Type 0
  IsReplyOf k r = IsAtModule k r.pe r.cell

  -- a request that waits in an interface is its own processing element's
  abbrev pub IsOwn : ℕ → Request → Type 0
  IsOwn p r = (r.pe ≡ p) × (r.cell < size c * c.cells)

  pub record IsRouted (m : Machine) : Type 0 where
    pub requests : (s x : ℕ) → s < c.stages → x < size c
        → AllByRecursion (IsEntryAt s x) (lane_at m s x).queue
    pub records : (s x : ℕ) → s < c.stages → x < size c
        → AllByRecursion (IsRecordAt s x) (lane_at m s x).records
    pub replies : (s y : ℕ) → s < c.stages → y < size c
        → AllByRecursion (IsReplyAt s y) (replies_at m s y)
    pub inputs : (k : ℕ) → k < size c → IfSome (module_at m k).inp (IsPlacedAt k)
    pub outputs : (k : ℕ) → k < size c → IfSome (module_at m k).out (IsReplyOf k)
    pub pending : (p : ℕ) → p < size c → AllByRecursion (IsOwn p) (element_at m p).interface.pending
    pub opened : (p : ℕ) → p < size c
        → AllByRecursion (λ (o : OpenCell). o.cell < size c * c.cells)
        (element_at m p).interface.opened
