-- the open requests, each with the cycle of its issue, as events change them
use Rattle.std.specs.Prelude.{◌≡◌, ℕ, ◌+◌, ◌-◌, ◌<◌, ◌≤◌, List, [], ◌∷◌, ◌++◌, map, true, false, ◌==◌, length, Option, Some, None, slice_set, slice_index_or, vec_capacity}
use Rattle.ultra_msg.specs.declared.{Request.Request, Event.{Event, TheVariants.{Delivered, Served, Combined, Issued}}}
use Rattle.ultra_pni.specs.declared.{OpenCell.OpenCell, TheConstants.MOST_OPEN}
use Rattle.ultra_isa.specs.declared.Instr.{Instr}
use Rattle.ultra_model.specs.{Machine.{Settings, size, element_at}, Phases.after, Places.places, Ranges.AreInRange}
use Rattle.ultra_latency.specs.{declared.open.{OpenRequest.OpenRequest, OpenTable.OpenTable}, Latency.{latest_issue, latencies_of}}

-- of one processing element: the first request for a cell, and the requests without it
abbrev pub request_for : ℕ → List OpenRequest → Option OpenRequest
request_for a [] = None
request_for a (o ∷ os) = elim (o.cell == a) [ true ↦ Some o | false ↦ request_for a os ]

abbrev pub without_request : ℕ → List OpenRequest → List OpenRequest
without_request a [] = []
without_request a (o ∷ os) = elim (o.cell == a) [ true ↦ os | false ↦ o ∷ without_request a os ]

-- ---- of all processing elements, by number
abbrev pub row : List (List OpenRequest) → ℕ → List OpenRequest
row rows p = slice_index_or rows p []

-- what an issue of a cycle makes
abbrev pub issued_request : ℕ → Request → ℕ → OpenRequest
issued_request cycle r n = record { number = n; cell = r.cell; op = r.op; cycle = cycle }

-- the rows after an event of a cycle, and the request that a delivery answers, with its latency
abbrev pub rows_with : ℕ → List (List OpenRequest) → Event → List (List OpenRequest)
rows_with cycle rows (Delivered r) = slice_set rows r.pe (without_request r.cell (row rows r.pe))
rows_with cycle rows (Served k r v now) = rows
rows_with cycle rows (Combined s x a old new first) = rows
rows_with cycle rows (Issued r n) =
    slice_set rows r.pe (row rows r.pe ++ issued_request cycle r n ∷ [])

abbrev pub answered_at : List (List OpenRequest) → Event → Option OpenRequest
answered_at rows (Delivered r) = request_for r.cell (row rows r.pe)
answered_at rows (Served k r v now) = None
answered_at rows (Combined s x a old new first) = None
answered_at rows (Issued r n) = None

abbrev pub since : ℕ → Option OpenRequest → List ℕ
since cycle None = []
since cycle (Some o) = (cycle - o.cycle) ∷ []

abbrev pub latency_at : ℕ → List (List OpenRequest) → Event → List ℕ
latency_at cycle rows e = since cycle (answered_at rows e)

-- each event is of a processing element that has a row, and an issue finds a place there
abbrev pub HasPlace : List (List OpenRequest) → Event → Type 0
HasPlace rows (Delivered r) = r.pe < length rows
HasPlace rows (Served k r v now) = Unit {0}
HasPlace rows (Combined s x a old new first) = Unit {0}
HasPlace rows (Issued r n) = (r.pe < length rows) × (length (row rows r.pe) < MOST_OPEN)

-- the same of several events
abbrev pub rows_after : ℕ → List (List OpenRequest) → List Event → List (List OpenRequest)
rows_after cycle rows [] = rows
rows_after cycle rows (e ∷ es) = rows_after cycle (rows_with cycle rows e) es

abbrev pub latencies_along : ℕ → List (List OpenRequest) → List Event → List ℕ
latencies_along cycle rows [] = []
latencies_along cycle rows (e ∷ es) =
    latency_at cycle rows e ++ latencies_along cycle (rows_with cycle rows e) es

abbrev pub HavePlaces : ℕ → List (List OpenRequest) → List Event → Type 0
HavePlaces cycle rows [] = Unit {0}
HavePlaces cycle rows (e ∷ es) = HasPlace rows e × HavePlaces cycle (rows_with cycle rows e) es

-- ---- the rows between two cycles: the open cells of each processing element, in the order of
-- their issues, each with its latest issue
module _ (c : Settings) (program : List Instr) (n : ℕ) where
  abbrev pub open_request : ℕ → ℕ → OpenRequest
  open_request p a =
      let i = latest_issue c program p a n in
      record { number = i.number; cell = a; op = i.op; cycle = i.cycle }

  abbrev pub open_requests : ℕ → List OpenCell → List OpenRequest
  open_requests p os = map (λ (o : OpenCell). open_request p o.cell) os

  unfoldable pub open_rows : List (List OpenRequest)
  open_rows =
      places (size c)
      (λ p. open_requests p (element_at (after c program n) p).interface.opened)

  -- a table of these rows. However long the run is, it has memory for a row of each processing
  -- element, and for no more
  pub record IsOpenTable (t : OpenTable) : Type 0 where
    pub rows : t.rows.items ≡ open_rows
    pub capacity : vec_capacity t.rows ≡ size c

  -- the row of a processing element has a request for a cell, which is the latest issue for it
  abbrev pub IsOpenIn : List (List OpenRequest) → ℕ → ℕ → Type 0
  IsOpenIn rows p a =
      (p < length rows) × (request_for a (row rows p) ≡ Some (open_request p a))

  -- so have the rows each request that is answered, served or combined in events of the next cycle
  abbrev pub NamesOpen : List (List OpenRequest) → Event → Type 0
  NamesOpen rows (Delivered r) = IsOpenIn rows r.pe r.cell
  NamesOpen rows (Served k r v now) = IsOpenIn rows r.pe r.cell
  NamesOpen rows (Combined s x a old new first) = IsOpenIn rows old a × IsOpenIn rows new a
  NamesOpen rows (Issued r k) = Unit {0}

  abbrev pub NameOpen : List (List OpenRequest) → List Event → Type 0
  NameOpen rows [] = Unit {0}
  NameOpen rows (e ∷ es) = NamesOpen rows e × NameOpen (rows_with n rows e) es

-- the law of open requests. The events of a cycle make the next rows of these, find their places
-- and name open requests. Their latencies by the rows are those of the cycle. There are at most 64
-- of them
pub record IsOpenLaw (c : Settings) (program : List Instr) (n : ℕ) : Type 0 where
  pub rows : rows_after n (open_rows c program n) (after c program (n + 1)).events
      ≡ open_rows c program (n + 1)
  pub places : HavePlaces n (open_rows c program n) (after c program (n + 1)).events
  pub named : NameOpen c program n (open_rows c program n) (after c program (n + 1)).events
  pub latencies : latencies_along n (open_rows c program n) (after c program (n + 1)).events
      ≡ latencies_of c program n
  pub few : length (latencies_of c program n) ≤ 64

-- for all settings in their ranges, every program and every cycle
abbrev pub OpenLaw : Type 0
OpenLaw = (c : Settings) → AreInRange c → (program : List Instr) (n : ℕ) → IsOpenLaw c program n
