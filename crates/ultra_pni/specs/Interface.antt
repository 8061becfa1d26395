-- a processing element's interface to the network. At most one outstanding reference to a cell is
-- the 1983 paper's; the rest is this project's profile
use Rattle.std.specs.Prelude.{◌≡◌, ◌≢◌, ℕ, ◌-◌, ◌≤◌, List, [], ◌∷◌, ◌++◌, Bool, true, false, ◌==◌, nat_lt, length, map, drop, slice_get, Option, Some, None, if◌then◌else◌}
use Rattle.std.specs.List.{list_any, AllPairs}
use Rattle.ultra_msg.specs.declared.Request.{Request}
use Rattle.ultra_pni.specs.declared.{OpenCell.OpenCell, Issue.{Issue, TheVariants.{Sent, CellOpen, Full}}, TheConstants.MOST_OPEN}

-- the open cells in the order of their issues, and the requests that are not yet in the network,
-- the first to leave first
pub record Interface : Type 0 where
  pub opened : List OpenCell
  pub pending : List Request

abbrev pub empty_interface : Interface
empty_interface = record { opened = []; pending = [] }

-- an interface, and the most cells that it may hold open
pub record SizedInterface : Type 0 where
  pub interface : Interface
  pub most_open : ℕ

-- the cells that are open, and those of the pending requests
abbrev pub open_cells : Interface → List ℕ
open_cells i = map (λ o. o.cell) i.opened

abbrev pub pending_cells : Interface → List ℕ
pending_cells i = map (λ r. r.cell) i.pending

-- what is true of every interface: at most `most_open` cells are open, and no more requests are
-- pending than cells are open. These are for the cells that were opened last. No cell is open twice
pub record IsWithin (i : Interface) (most_open : ℕ) : Type 0 where
  pub small : most_open ≤ MOST_OPEN
  pub opened : length i.opened ≤ most_open
  pub pending : length i.pending ≤ length i.opened
  pub latest : pending_cells i ≡ drop (length i.opened - length i.pending) (open_cells i)
  pub different : AllPairs (λ o p. o.cell ≢ p.cell) i.opened

abbrev pub is_open : ℕ → List OpenCell → Bool
is_open a os = list_any (λ o. o.cell == a) os

abbrev pub is_pending : ℕ → List Request → Bool
is_pending a rs = list_any (λ r. r.cell == a) rs

-- a reply for cell a can be delivered: the cell is open, and its request has left the list
pub record CanDeliver (a : ℕ) (i : Interface) : Type 0 where
  pub open_cell : is_open a i.opened ≡ true
  pub none_pending : is_pending a i.pending ≡ false

-- whether a register is where a reply goes, and whether one of the open cells' replies goes there
abbrev pub goes_to : ℕ → Option ℕ → Bool
goes_to r None = false
goes_to r (Some t) = r == t

abbrev pub is_awaited : ℕ → List OpenCell → Bool
is_awaited r os = list_any (λ o. goes_to r o.target) os

-- what becomes of a request, of at most n open cells
abbrev pub issue_of : ℕ → Interface → Request → Issue
issue_of most_open i r =
    if is_open r.cell i.opened then CellOpen else if nat_lt (length i.opened) most_open then Sent
    else Full

-- whether a request that became this was refused
abbrev pub is_refusal : Issue → Bool
is_refusal Sent = false
is_refusal CellOpen = true
is_refusal Full = true

abbrev pub after_issue : Interface → Request → Option ℕ → Issue → Interface
after_issue i r target Sent =
    record {
      opened = i.opened ++ record { cell = r.cell; target = target }
          ∷ [];
      pending = i.pending ++ r ∷ [];
    }
after_issue i r target CellOpen = i
after_issue i r target Full = i

-- the request that leaves next, if there is one, and the interface without it
abbrev pub next_pending : SizedInterface → Option Request
next_pending p = slice_get p.interface.pending 0

abbrev pub without_next : SizedInterface → SizedInterface
without_next p =
    record p { interface = record p.interface { pending = drop 1 p.interface.pending } }

-- the register that the reply for a cell goes to
abbrev pub target_of : ℕ → List OpenCell → Option ℕ
target_of a [] = None
target_of a (o ∷ os) = elim (o.cell == a) [ true ↦ o.target | false ↦ target_of a os ]

-- the open cells without this one
abbrev pub closed : ℕ → List OpenCell → List OpenCell
closed a [] = []
closed a (o ∷ os) = elim (o.cell == a) [ true ↦ os | false ↦ o ∷ closed a os ]
