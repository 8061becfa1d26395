-- what the halves of a cycle do at one port of a switch of a machine of d stages
use Rattle.std.specs.Prelude.{ℕ, ◌+◌, ◌-◌, ◌*◌, ◌%◌, ◌^◌, List, [], ◌∷◌, ◌++◌, Bool, true, false, ◌==◌, ◌&&◌, length, Option, Some, None, option_map}
use Rattle.ultra_unit_steps.specs.Prelude.{filter, Request, ReplyMessage, Event, Combined, pair_of, bit_of, Ports, SizedLane, SizedReplies, after_leaving, records_left, arrive_all}
use Rattle.ultra_switch.specs.Arrive.{combine_within}

abbrev pub ports : {X : Type 0} → X → X → Ports X
ports x y = record { zero = x; one = y }

-- what is made of what there is at each of two ports: of that alone, of two things at the same
-- port, or by the number of the port
abbrev pub map_ports : {X Y : Type 0} → (X → Y) → Ports X → Ports Y
map_ports f p = ports (f p.zero) (f p.one)

abbrev pub zip_ports : {X Y Z : Type 0} → (X → Y → Z) → Ports X → Ports Y → Ports Z
zip_ports f p q = ports (f p.zero q.zero) (f p.one q.one)

abbrev pub ports_by : {X Y : Type 0} → (ℕ → X → Y) → Ports X → Ports Y
ports_by f p = ports (f 0 p.zero) (f 1 p.one)

-- whether a test is true at both
abbrev pub of_both : {X : Type 0} → (X → Bool) → Ports X → Bool
of_both test p = test p.zero && test p.one

-- what moves where there is room
abbrev pub where_room : {X : Type 0} → Bool → Option X → Option X
where_room room o = elim room [ true ↦ o | false ↦ None ]

abbrev pub has_none : {X : Type 0} → List X → Bool
has_none xs = length xs == 0

-- ---- replies
-- a queue toward the processing elements with some replies more, and without its first where one
-- leaves
abbrev pub with_replies : SizedReplies → List ReplyMessage → SizedReplies
with_replies q rs = record q { replies = q.replies ++ rs }

abbrev pub replies_without : {X : Type 0} → SizedReplies → Option X → SizedReplies
replies_without q o = record q { replies = after_leaving o q.replies }

-- the replies of a list that leave stage s by port j
abbrev pub going_by : ℕ → ℕ → ℕ → List ReplyMessage → List ReplyMessage
going_by d s j rs = filter (λ (r : ReplyMessage). bit_of (d - 1 - s) r.pe == j) rs

-- a queue toward memory after a reply came back to it
abbrev pub lane_after_reply : SizedLane → Option ReplyMessage → SizedLane
lane_after_reply l o = record l { lane = record l.lane { records = records_left l.lane.records o } }

-- ---- requests
-- a queue toward memory without its first where one leaves, and after some requests arrived
abbrev pub lane_without : {X : Type 0} → SizedLane → Option X → SizedLane
lane_without l o = record l { lane = record l.lane { queue = after_leaving o l.lane.queue } }

abbrev pub lane_with : SizedLane → List Request → SizedLane
lane_with l rs = record l { lane = arrive_all l.wait_places l.lane rs }

-- whether a request leaves stage s by port j
abbrev pub leaves_by : ℕ → ℕ → ℕ → Request → Bool
leaves_by d s j r = bit_of (d - 1 - s) (r.cell % 2 ^ d) == j

-- the request as a list, if it leaves stage s by port j
abbrev pub coming_to : ℕ → ℕ → ℕ → Option Request → List Request
coming_to d s j None = []
coming_to d s j (Some r) = elim (leaves_by d s j r) [ true ↦ r ∷ [] | false ↦ [] ]

-- of what came to the two ports, what goes first in cycle n, and what goes second
abbrev pub first_of : {X : Type 0} → ℕ → Ports X → X
first_of n o = elim (n % 2 == 0) [ true ↦ o.zero | false ↦ o.one ]

abbrev pub second_of : {X : Type 0} → ℕ → Ports X → X
second_of n o = elim (n % 2 == 0) [ true ↦ o.one | false ↦ o.zero ]

-- of two requests that come in this order, what leaves stage s by port j
abbrev pub both_coming : ℕ → ℕ → ℕ → Option Request → Option Request → List Request
both_coming d s j first second = coming_to d s j first ++ coming_to d s j second

-- the combination that a request makes in a queue at position x of stage s
abbrev pub combination_in : ℕ → ℕ → SizedLane → Request → Option Event
combination_in s x l r = option_map
    (λ c. Combined s x r.cell c.old.request.pe r.pe (pair_of c.old.request.op r.op).old_first)
    (combine_within l.wait_places l.lane r)

-- the combination of what came to a port of switch k of stage s, in the queue by which it leaves
abbrev pub combination_by : ℕ → ℕ → ℕ → Ports SizedLane → Option Request → Option Event
combination_by d s k lanes None = None
combination_by d s k lanes (Some r) =
    elim (leaves_by d s 0 r) [
      | true ↦ combination_in s (2 * k) lanes.zero r
      | false ↦ combination_in s (2 * k + 1) lanes.one r
    ]

-- whether of two requests the second leaves stage s by port 0, and the first by port 1
abbrev pub are_ports_reversed : ℕ → ℕ → Option Request → Option Request → Bool
are_ports_reversed d s (Some f) (Some g) = leaves_by d s 1 f && leaves_by d s 0 g
are_ports_reversed d s f g = false

-- two in their order, or turned
abbrev pub in_order : {X : Type 0} → Bool → X → X → List X
in_order true x y = y ∷ x ∷ []
in_order false x y = x ∷ y ∷ []
