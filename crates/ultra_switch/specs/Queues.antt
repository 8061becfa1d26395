-- what a caller sees of the queues of a switch: what lies in them, and how many places they have.
-- Their places are this project's profile
use Rattle.std.specs.Prelude.{◌≤◌, ℕ, List, [], length, Option, Some, None}
use Rattle.ultra_msg.specs.declared.{Request.Request, ReplyMessage.ReplyMessage}
use Rattle.ultra_switch.specs.{declared.{QueueEntry.QueueEntry, TheConstants.{MOST_REQUEST_PLACES, MOST_WAIT_PLACES}}, Arrive.{Lane, empty_lane}}

-- a queue toward memory with its wait buffer, and the places of both
pub record SizedLane : Type 0 where
  pub lane : Lane
  pub request_places : ℕ
  pub wait_places : ℕ

abbrev pub empty_requests : ℕ → ℕ → SizedLane
empty_requests request_places wait_places =
    record { lane = empty_lane; request_places = request_places; wait_places = wait_places }

-- nothing holds more than its places, of which there is a greatest number
pub record IsWithinPlaces (l : SizedLane) : Type 0 where
  pub requests : length l.lane.queue ≤ l.request_places
  pub records : length l.lane.records ≤ l.wait_places
  pub most_requests : l.request_places ≤ MOST_REQUEST_PLACES
  pub most_records : l.wait_places ≤ MOST_WAIT_PLACES

-- a queue toward the processing elements, and its places
pub record SizedReplies : Type 0 where
  pub replies : List ReplyMessage
  pub places : ℕ

abbrev pub empty_replies : ℕ → SizedReplies
empty_replies places = record { replies = []; places = places }

-- the request of the entry, if there is one
abbrev pub request_of : Option QueueEntry → Option Request
request_of None = None
request_of (Some e) = Some e.request
