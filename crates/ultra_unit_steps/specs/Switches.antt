-- a switch after each half of a cycle, at stage s of a machine of d stages
use Rattle.std.specs.Prelude.{ℕ, ◌+◌, ◌*◌, List, ◌++◌, Bool, ◌&&◌, not, length, nat_le, IsTrue, Option, slice_get}
use Rattle.ultra_unit_steps.specs.Prelude.{ForSome, Request, ReplyMessage, Event, Ports, Switch, SizedLane, request_of, combinations, replies_made}
use Rattle.ultra_unit_steps.specs.Halves.{map_ports, zip_ports, ports_by, of_both, where_room, has_none, with_replies, going_by, replies_without, lane_after_reply, lane_without, lane_with, leaves_by, both_coming, first_of, second_of}

-- ---- replies
-- the replies that leave: the first of each queue, where it goes on
abbrev pub replies_leaving : Ports Bool → Switch → Ports (Option ReplyMessage)
replies_leaving goes w = zip_ports (λ goes q. where_room goes (slice_get q.replies 0)) goes w.to_pe

-- the switch without the first of each queue where one leaves
abbrev pub without_replies : {X : Type 0} → Switch → Ports (Option X) → Switch
without_replies w out = record w { to_pe = zip_ports replies_without w.to_pe out }

-- both queues toward the processing elements have room for all that may come
abbrev pub has_reply_room : Switch → Bool
has_reply_room w = of_both (λ q. nat_le (length q.replies + 4) q.places) w.to_pe

-- where a reply has come there is room
pub record CanTakeReplies (w : Switch) (incoming : Ports (Option ReplyMessage)) : Type 0 where
  pub zero : ForSome incoming.zero (λ _. IsTrue (has_reply_room w))
  pub one : ForSome incoming.one (λ _. IsTrue (has_reply_room w))

-- after these replies came: what became of those of both ports goes on by the port of a queue
abbrev pub after_replies : ℕ → ℕ → Switch → Ports (Option ReplyMessage) → Switch
after_replies d s w incoming =
    let made = zip_ports (λ (l : SizedLane) o. replies_made l.lane.records o) w.to_mm incoming in
    record {
      to_mm = zip_ports lane_after_reply w.to_mm incoming;
      to_pe = ports_by (λ j q.
          with_replies (with_replies q (going_by d s j made.zero))
          (going_by d s j made.one)) w.to_pe;
    }

-- ---- requests
abbrev pub first_request : SizedLane → Option Request
first_request l = request_of (slice_get l.lane.queue 0)

abbrev pub request_heads : Switch → Ports (Option Request)
request_heads w = map_ports first_request w.to_mm

-- the requests that leave: the first of each queue, where it goes on
abbrev pub requests_leaving : Ports Bool → Switch → Ports (Option Request)
requests_leaving goes w = zip_ports where_room goes (request_heads w)

-- the switch without the first of each queue where one leaves
abbrev pub without_requests : {X : Type 0} → Switch → Ports (Option X) → Switch
without_requests w out = record w { to_mm = zip_ports lane_without w.to_mm out }

-- which queues toward memory have room for all that may come
abbrev pub has_request_room : Switch → Ports Bool
has_request_room w = map_ports (λ l. nat_le (length l.lane.queue + 2) l.request_places) w.to_mm

-- a request that has come finds room for two where it goes
abbrev pub HasWay : ℕ → ℕ → Switch → Request → Type 0
HasWay d s w r =
    (IsTrue (leaves_by d s 0 r) → IsTrue (has_request_room w).zero)
    × (IsTrue (leaves_by d s 1 r) → IsTrue (has_request_room w).one)

pub record CanTakeRequests (d s : ℕ) (w : Switch) (incoming : Ports (Option Request)) : Type 0 where
  pub zero : ForSome incoming.zero (HasWay d s w)
  pub one : ForSome incoming.one (HasWay d s w)

-- after two requests came in this order, and after these requests came in cycle n
abbrev pub after_both : ℕ → ℕ → Switch → Option Request → Option Request → Switch
after_both d s w first second =
    record w { to_mm = ports_by (λ j l. lane_with l (both_coming d s j first second)) w.to_mm }

abbrev pub after_requests : ℕ → ℕ → ℕ → Switch → Ports (Option Request) → Switch
after_requests d s n w incoming = after_both d s w (first_of n incoming) (second_of n incoming)

-- the combinations that they make in switch k of the stage: those of port 0, then those of port 1
abbrev pub combinations_of_both : ℕ → ℕ → ℕ → Switch → Option Request → Option Request → List Event
combinations_of_both d s k w first second =
    let made = λ (j : ℕ) (l : SizedLane).
    combinations l.wait_places s (2 * k + j) l.lane (both_coming d s j first second) in
    made 0 w.to_mm.zero ++ made 1 w.to_mm.one

abbrev pub combinations_of : ℕ → ℕ → ℕ → ℕ → Switch → Ports (Option Request) → List Event
combinations_of d s k n w incoming =
    combinations_of_both d s k w (first_of n incoming) (second_of n incoming)

-- ---- what it holds
abbrev pub holds_replies : Switch → Bool
holds_replies w = not (of_both (λ q. has_none q.replies) w.to_pe)

-- there may be records in its wait buffers where it holds none
abbrev pub holds_requests : Switch → Bool
holds_requests w = not (of_both (λ l. has_none l.lane.queue) w.to_mm)

-- a record is in one of its wait buffers
abbrev pub keeps_records : Switch → Bool
keeps_records w = not (of_both (λ l. has_none l.lane.records) w.to_mm)

-- nothing is in its queues and wait buffers
abbrev pub quiet_switch : Switch → Bool
quiet_switch w =
    of_both (λ l. has_none l.lane.queue && has_none l.lane.records) w.to_mm
    && of_both (λ q. has_none q.replies) w.to_pe
