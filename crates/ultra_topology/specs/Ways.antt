-- where messages go from a unit, and where there is a way: the unit that they go to has room
use Rattle.std.specs.Prelude.{ℕ, ◌+◌, ◌-◌, ◌*◌, ◌/◌, ◌%◌, ◌^◌, List, Bool, true, false, not, ◌==◌, Option, Some, None}
use Rattle.ultra_route.specs.Route.{shuffled, bit_of}
use Rattle.ultra_switch.specs.declared.Ports.{Ports}
use Rattle.ultra_msg.specs.declared.Request.{Request}
use Rattle.ultra_topology.specs.{Set.has_unit, Numbers.{link_number, reply_target, request_target, switch_number}}

-- the links by which messages leave switch k of stage s
abbrev pub places_of : ℕ → ℕ → ℕ → Ports ℕ
places_of d s k = record { zero = link_number d s (2 * k); one = link_number d s (2 * k + 1) }

-- ---- replies
-- the units to which replies go from switch k of stage s, by the PE-side port
abbrev pub reply_targets : ℕ → ℕ → ℕ → Ports ℕ
reply_targets d s k = record { zero = reply_target d s (2 * k); one = reply_target d s (2 * k + 1) }

-- `closed` are the switches without room for replies
module _ (closed : List ℕ) where
  -- whether a reply may go on from a PE-side position of a stage: to a processing element always
  abbrev pub has_reply_way : ℕ → ℕ → ℕ → Bool
  has_reply_way d s y =
      elim (s == 0) [ true ↦ true | false ↦ not (has_unit closed (reply_target d s y)) ]

  abbrev pub reply_ways : ℕ → ℕ → ℕ → Ports Bool
  reply_ways d s k =
      record { zero = has_reply_way d s (2 * k); one = has_reply_way d s (2 * k + 1) }

  -- from a module: to its switch of the last stage
  abbrev pub has_way_from_module : ℕ → ℕ → Bool
  has_way_from_module d m = not (has_unit closed (switch_number d (d - 1) (m / 2)))

-- ---- requests
-- the units to which requests go from switch k of stage s, by the memory-side port
abbrev pub request_targets : ℕ → ℕ → ℕ → Ports ℕ
request_targets d s k =
    record { zero = request_target d s (2 * k); one = request_target d s (2 * k + 1) }

-- `closed` are, by the memory-side port, the switches whose queue there has no room for requests;
-- in `zero` also the modules whose register holds one
module _ (closed : Ports (List ℕ)) where
  -- whether the queue that a request goes to at a switch of stage s has room
  abbrev pub has_room_at : ℕ → ℕ → ℕ → Request → Bool
  has_room_at d s switch r = elim (bit_of (d - 1 - s) (r.cell % 2 ^ d) == 0) [
    | true ↦ not (has_unit closed.zero switch)
    | false ↦ not (has_unit closed.one switch)
  ]

  -- whether the first request of a queue may go on from a memory-side position of stage s: to a
  -- module from the last one
  abbrev pub has_request_way : ℕ → ℕ → ℕ → Option Request → Bool
  has_request_way d s x None = false
  has_request_way d s x (Some r) = elim (s == d - 1) [
    | true ↦ not (has_unit closed.zero (request_target d s x))
    | false ↦ has_room_at d (s + 1) (request_target d s x) r
  ]

  abbrev pub request_ways : ℕ → ℕ → ℕ → Ports (Option Request) → Ports Bool
  request_ways d s k heads = record {
    zero = has_request_way d s (2 * k) heads.zero;
    one = has_request_way d s (2 * k + 1) heads.one;
  }

  -- from a processing element: to its switch of stage 0
  abbrev pub has_way_from_element : ℕ → ℕ → Option Request → Bool
  has_way_from_element d p None = false
  has_way_from_element d p (Some r) = has_room_at d 0 (switch_number d 0 (shuffled d p / 2)) r
