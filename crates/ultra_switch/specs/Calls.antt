-- what the calls of the queues of a switch give and leave. Each call has two forms, on requests and
-- replies and on their packets, with one definition. Room rules are this project's profile
use Rattle.std.specs.Prelude.{ℕ, List, [], ◌∷◌, ◌++◌, Option, drop, slice_get}
use Rattle.ultra_msg.specs.declared.{Request.Request, ReplyMessage.ReplyMessage}
use Rattle.ultra_switch.specs.{declared.Arrived.Arrived, Arrive.{arrive, arrival}, Split.{records_after, replies_of}, Queues.{SizedLane, SizedReplies, request_of}}

-- ---- a queue toward memory with its wait buffer
-- the request at the front, if there is one, and the queue without it
abbrev pub lane_head : SizedLane → Option Request
lane_head l = request_of (slice_get l.lane.queue 0)

abbrev pub without_head : SizedLane → SizedLane
without_head l = record l { lane = record l.lane { queue = drop 1 l.lane.queue } }

-- a request arrives: what becomes of it, and the queue and wait buffer afterwards
abbrev pub arrival_of : SizedLane → Request → Arrived
arrival_of l r = arrival l.wait_places l.lane r

abbrev pub with_arrival : SizedLane → Request → SizedLane
with_arrival l r = record l { lane = arrive l.wait_places l.lane r }

-- a reply comes back: the replies that are made of it, and the wait buffer afterwards
abbrev pub split_replies : SizedLane → ReplyMessage → List ReplyMessage
split_replies l m = replies_of m l.lane.records

abbrev pub after_split : SizedLane → ReplyMessage → SizedLane
after_split l m = record l { lane = record l.lane { records = records_after m l.lane.records } }

-- ---- a queue toward the processing elements
-- the reply at the front, if there is one, and the queue without it
abbrev pub first_reply : SizedReplies → Option ReplyMessage
first_reply q = slice_get q.replies 0

abbrev pub without_first : SizedReplies → SizedReplies
without_first q = record q { replies = drop 1 q.replies }

-- a reply comes to the end
abbrev pub with_reply : SizedReplies → ReplyMessage → SizedReplies
with_reply q m = record q { replies = q.replies ++ m ∷ [] }
