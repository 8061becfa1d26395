-- the requests of a row, by identity
use Rattle.std.specs.Prelude.{ℕ, List, [], ◌∷◌, ◌++◌, Bool, true, false, Option, option_map}
use Rattle.std.specs.Global.{Vec}
use Rattle.ultra_serial.specs.{declared.pending_row.PendingRequest.PendingRequest, ByPair.is_pair}
use Rattle.ultra_serial_law.specs.declared.records.NamedRequest.{NamedRequest}

abbrev pub first_if : {X : Type 0} → Bool → X → List X → List X
first_if true x xs = x ∷ xs
first_if false x xs = xs

-- the leaves of each request under an identity, in the order of the row
abbrev pub leaves_under : ℕ → ℕ → List PendingRequest → List (List NamedRequest)
leaves_under p a [] = []
leaves_under p a (r ∷ rs) =
    first_if (is_pair r.pe r.cell p a) r.leaves.items (leaves_under p a rs)

abbrev pub items_in : Option (Vec NamedRequest) → Option (List NamedRequest)
items_in o = option_map (λ (v : Vec NamedRequest). v.items) o

-- two lists of leaves in serial order
abbrev pub leaves_in_order : Bool → List NamedRequest → List NamedRequest → List NamedRequest
leaves_in_order true old new = old ++ new
leaves_in_order false old new = new ++ old

-- the leaves of a new request are joined to the last list, if there is one
abbrev pub last_joined : Bool → List NamedRequest → List (List NamedRequest)
    → List (List NamedRequest)
last_joined f new [] = []
last_joined f new (old ∷ []) = leaves_in_order f old new ∷ []
last_joined f new (us ∷ vs ∷ rest) = us ∷ last_joined f new (vs ∷ rest)

-- so where it is this identity, and the same lists where it is another
abbrev pub with_joined : Bool → Bool → List NamedRequest → List (List NamedRequest)
    → List (List NamedRequest)
with_joined true f new lists = last_joined f new lists
with_joined false f new lists = lists
