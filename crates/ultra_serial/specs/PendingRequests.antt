-- how the requests on their way to memory are kept: under each identity the leaves of its trees,
-- the latest last
use Rattle.std.specs.Prelude.{◌≡◌, ℕ, ◌%◌, List, [], ◌∷◌, Option, Some, None, slice_get}
use Rattle.ultra_serial.specs.{declared.{pending_row.{PendingRequest.PendingRequest, PendingRow.PendingRow}, pending_requests.PendingRequests.PendingRequests}, ByPair.with_item, PendingRow.leaves_under}
use Rattle.ultra_serial_law.specs.{declared.records.NamedRequest.NamedRequest, Tree.{leaves, Kept, is_under}}

abbrev pub stacked : ℕ → ℕ → List Kept → List (List NamedRequest)
stacked p a [] = []
stacked p a (k ∷ ks) = with_item (is_under p a k) (stacked p a ks) (leaves k.tree)

-- the requests of a row, or none where the row isn't made yet
abbrev pub requests_in : Option PendingRow → List PendingRequest
requests_in None = []
requests_in (Some row) = row.requests.items

-- the row of a processing element is that of the remainder of its number
abbrev pub chains_in : List PendingRow → ℕ → ℕ → List (List NamedRequest)
chains_in rows p a = leaves_under p a (requests_in (slice_get rows (p % 64)))

abbrev pub chains_of : PendingRequests → ℕ → ℕ → List (List NamedRequest)
chains_of w = chains_in w.rows.items

-- they are these trees
abbrev pub Keeps : PendingRequests → List Kept → Type 0
Keeps w ks = (p a : ℕ) → chains_of w p a ≡ stacked p a ks
