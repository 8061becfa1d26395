-- what is counted of ports while a run goes on, and what one state of the machine adds
use Rattle.std.specs.Prelude.{◌≡◌, ℕ, ◌+◌, ◌*◌, ◌^◌, ◌<◌, List, length, max, get_or, slice_index, slice_set, Bool, true, false}
use Rattle.ultra_isa.specs.declared.Instr.{Instr}
use Rattle.ultra_model.specs.Machine.{Settings, Machine, size}
use Rattle.ultra_block.specs.Held.{Held, TheVariants.{Reply, Request, Record}}
use Rattle.ultra_measure.specs.Held.{held_at}
use Rattle.ultra_statistics.specs.Ports.{leaving_at, lacks_room, left_count, held_sum, held_most, full_count, combination_count}
use Rattle.ultra_statistics.specs.declared.{counts.{QueueCounts.QueueCounts, Moment.Moment}, queues.QueueTable.QueueTable}

abbrev pub no_counts : QueueCounts
no_counts = record { left = 0; sum = 0; most = 0; full = 0 }

-- those of position x of stage s. A stage has 64 places in a list, as many as any machine has
-- positions
abbrev pub counts_of : List QueueCounts → ℕ → ℕ → QueueCounts
counts_of qs s x = get_or qs (s * 64 + x) no_counts

abbrev pub if_so : Bool → ℕ → ℕ
if_so true n = n
if_so false n = 0

-- a state of the machine, as the end of a cycle and as the start of the next, where these are in
-- the window
abbrev pub with_state : Settings → Held → Moment → Machine → ℕ → ℕ → QueueCounts → QueueCounts
with_state c held at m s x q = record {
  left = q.left + if_so at.begins (leaving_at c held s m x);
  sum = q.sum + if_so at.ended (held_at held s m x);
  most = max q.most (if_so at.ended (held_at held s m x));
  full = q.full + if_so at.ended (lacks_room c held s m x);
}

-- it has come to the counts of position x of stage s
abbrev pub with_position : Settings → Held → Moment → Machine → ℕ → ℕ → List QueueCounts
    → List QueueCounts
with_position c held at m s x qs =
    slice_set qs (s * 64 + x) (with_state c held at m s x (counts_of qs s x))

-- it has come to the counts of all positions
pub record AreCountsWithState (c : Settings) (held : Held) (at : Moment) (m : Machine)
    (old new : List QueueCounts) : Type 0 where
  pub count : length new ≡ 384
  pub each : (s x : ℕ) → s < c.stages → x < size c
      → counts_of new s x ≡ with_state c held at m s x (counts_of old s x)

-- each can take one more state
pub record HasCountRoom (q : QueueCounts) : Type 0 where
  pub left : q.left + 1 < 2 ^ 32
  pub sum : q.sum + 64 < 2 ^ 32
  pub full : q.full + 1 < 2 ^ 32

abbrev pub HaveCountRoom : Settings → List QueueCounts → Type 0
HaveCountRoom c qs = (s x : ℕ) → s < c.stages → x < size c → HasCountRoom (counts_of qs s x)

-- a table has the places of all ports
pub record HasPlaces (t : QueueTable) : Type 0 where
  pub requests : length t.requests.items ≡ 384
  pub records : length t.records.items ≡ 384
  pub replies : length t.replies.items ≡ 384
  pub combined : length t.combined.items ≡ 384

-- and can take one more state
pub record CanTakeState (c : Settings) (t : QueueTable) : Type 0 where
  pub places : HasPlaces t
  pub requests : HaveCountRoom c t.requests.items
  pub records : HaveCountRoom c t.records.items
  pub replies : HaveCountRoom c t.replies.items

-- a state has come to a table
pub record IsWithState (c : Settings) (at : Moment) (m : Machine) (old new : QueueTable)
    : Type 0 where
  pub from : new.from ≡ old.from
  pub requests : AreCountsWithState c Request at m old.requests.items new.requests.items
  pub records : AreCountsWithState c Record at m old.records.items new.records.items
  pub replies : AreCountsWithState c Reply at m old.replies.items new.replies.items
  pub combined : new.combined.items ≡ old.combined.items

module _ (c : Settings) (program : List Instr) (first ended begun : ℕ) where
  -- the ends of the cycles below `ended` and the starts of those below `begun` are counted
  abbrev pub window_counts : Held → ℕ → ℕ → QueueCounts
  window_counts held s x = record {
    left = left_count c program first begun held s x;
    sum = held_sum c program first ended held s x;
    most = held_most c program first ended held s x;
    full = full_count c program first ended held s x;
  }

  pub record AreCounted (held : Held) (qs : List QueueCounts) : Type 0 where
    pub count : length qs ≡ 384
    pub each : (s x : ℕ) → s < c.stages → x < size c
        → counts_of qs s x ≡ window_counts held s x

  pub record AreCombinations (ns : List ℕ) : Type 0 where
    pub count : length ns ≡ 384
    pub each : (s x : ℕ) → s < 6 → x < 64
        → slice_index ns (s * 64 + x) ≡ combination_count c program first ended s x

  pub record IsTable (t : QueueTable) : Type 0 where
    pub from : t.from ≡ first
    pub requests : AreCounted Request t.requests.items
    pub records : AreCounted Record t.records.items
    pub replies : AreCounted Reply t.replies.items
    pub combined : AreCombinations t.combined.items
