-- a request arrives at a queue toward memory. Queues, wait buffers and pairwise combining are the
-- 1983 paper's; which entry combines, and when, is this project's profile
use Rattle.std.specs.Prelude.{ℕ, List, [], ◌∷◌, ◌++◌, Bool, true, false, not, ◌&&◌, ◌==◌, nat_lt, length, Option, Some, None}
use Rattle.ultra_msg.specs.{declared.Request.Request, Pair.pair_of}
use Rattle.ultra_switch.specs.declared.{QueueEntry.QueueEntry, WaitRecord.WaitRecord, Arrived.{Arrived, TheVariants.{Appended, CombinedWith}}}

-- a queue toward memory with its wait buffer, the front and the oldest record first
pub record Lane : Type 0 where
  pub queue : List QueueEntry
  pub records : List WaitRecord

abbrev pub empty_lane : Lane
empty_lane = record { queue = []; records = [] }

abbrev pub entry : Request → Bool → QueueEntry
entry r marked = record { request = r; combined = marked }

-- whether a request may combine with this entry: it is for the same cell, and has not combined in
-- this queue
abbrev pub can_combine : Request → QueueEntry → Bool
can_combine r e = not e.combined && (e.request.cell == r.cell)

-- the request that stands for both after a request has combined with an old one: it has the
-- identity of the old one
abbrev pub sent_for : Request → Request → Request
sent_for old r = record { pe = old.pe; cell = old.cell; op = (pair_of old.op r.op).sent }

-- the entry that stands for both; it is marked
abbrev pub combined_entry : QueueEntry → Request → QueueEntry
combined_entry e r = entry (sent_for e.request r) true

-- the record that is kept of the two
abbrev pub wait_record : QueueEntry → Request → WaitRecord
wait_record e r = record {
  pe = e.request.pe;
  cell = e.request.cell;
  give_old = (pair_of e.request.op r.op).give_old;
  partner = r.pe;
  give_new = (pair_of e.request.op r.op).give_new;
}

-- a request has combined with the entry `old`: the queue after it
pub record Combination : Type 0 where
  pub queue : List QueueEntry
  pub old : QueueEntry

abbrev pub behind : QueueEntry → Option Combination → Option Combination
behind e None = None
behind e (Some c) = Some record { queue = e ∷ c.queue; old = c.old }

-- a request combines with the frontmost entry that it can combine with
abbrev pub combine : Request → List QueueEntry → Option Combination
combine r [] = None
combine r (e ∷ es) = elim (can_combine r e) [
  | true ↦ Some record { queue = combined_entry e r ∷ es; old = e }
  | false ↦ behind e (combine r es)
]

-- where the wait buffer has fewer records than places
abbrev pub combine_within : ℕ → Lane → Request → Option Combination
combine_within wait_places l r =
    elim (nat_lt (length l.records) wait_places) [ true ↦ combine r l.queue | false ↦ None ]

abbrev pub after_arrival : Lane → Request → Option Combination → Lane
after_arrival l r None = record { queue = l.queue ++ entry r false ∷ []; records = l.records }
after_arrival l r (Some c) =
    record { queue = c.queue; records = l.records ++ wait_record c.old r ∷ [] }

-- the lane after a request has arrived: it has combined, or it is at the end, unmarked
abbrev pub arrive : ℕ → Lane → Request → Lane
arrive wait_places l r = after_arrival l r (combine_within wait_places l r)

-- what became of the request
abbrev pub outcome : Option Combination → Arrived
outcome None = Appended
outcome (Some c) = CombinedWith c.old.request.pe

abbrev pub arrival : ℕ → Lane → Request → Arrived
arrival wait_places l r = outcome (combine_within wait_places l r)
