-- what a window keeps while a run goes on: its numbers over the cycles from `from` on, below `to`
use Rattle.std.specs.Prelude.{◌≡◌, ℕ, ◌-◌, ◌+◌, ◌*◌, ◌^◌, ◌<◌, ◌≤◌, List, length, max, slice_index}
use Rattle.ultra_isa.specs.declared.Instr.{Instr}
use Rattle.ultra_model.specs.{Machine.{Settings, Machine, size}, Phases.after, Balance.{count, total}}
use Rattle.ultra_block.specs.{Held.{Held, TheVariants.{Reply, Request, Record}}, State.BlocksState}
use Rattle.ultra_latency.specs.{Latency.latencies, Summary.{AreSummedUp, AreSmall}, declared.summary.Latencies.Latencies}
use Rattle.ultra_measure.specs.{declared.{depths.Depths.Depths, elements.ElementSums.ElementSums, event_sums.EventSums.EventSums, window.Window.Window}, Window.{sum_of, most_of, greatest}, ElementStates.AreSeen}
use Rattle.ultra_measure.specs.EventKinds.{is_issue, is_delivery, is_act, is_act_of, is_combination, is_combination_in}
use Rattle.ultra_measure.specs.Held.{held_at, full_at, running, stalled, opened, pending, waiting_in, waiting_out}

module _ (c : Settings) (program : List Instr) (from to : ℕ) where
  -- a sum over the cycles, each of whose numbers fits 32 bits
  pub record IsSum (f : Machine → ℕ) (n : ℕ) : Type 0 where
    pub is : n ≡ sum_of c program from to f
    pub small : n ≤ (to - from) * (2 ^ 32 - 1)

  pub record AreEventSums (s : EventSums) : Type 0 where
    pub issued : IsSum (λ m. count is_issue m.events) s.issued
    pub answered : IsSum (λ m. count is_delivery m.events) s.answered
    pub acts : IsSum (λ m. count is_act m.events) s.acts
    pub combined : IsSum (λ m. count is_combination m.events) s.combined
    pub faults : IsSum (λ m. length m.stops) s.faults
    pub combined_in : (k : ℕ) → k < 6
        → IsSum (λ m. count (is_combination_in k) m.events) (slice_index s.combined_in k)
    pub acts_of : (k : ℕ) → k < 64
        → IsSum (λ m. count (is_act_of k) m.events) (slice_index s.acts_of k)

  -- the sum and the rest of the latencies; at most one a processing element and cycle
  pub record AreLatencies (l : Latencies) : Type 0 where
    pub summary : AreSummedUp (latencies c program from to) l
    pub small : AreSmall l
    pub few : l.count ≤ (to - from) * 64

  pub record AreElementSums (s : ElementSums) : Type 0 where
    pub running : IsSum (λ m. total (size c) (running m)) s.running
    pub stalled : IsSum (λ m. total (size c) (stalled c program m)) s.stalled
    pub opened : IsSum (λ m. total (size c) (opened m)) s.open
    pub pending_most : s.pending_most
        ≡ most_of c program from to (λ m. greatest (size c) (pending m))
    pub pending : IsSum (λ m. total (size c) (pending m)) s.pending
    pub states : AreSeen c program (after c program to) s.states

  -- the sums and the maxima of what stages hold of a kind, and the sums of what is full
  pub record AreDepths (held : Held) (d : Depths) : Type 0 where
    pub sums : (s : ℕ) → s < c.stages
        → slice_index d.sums s ≡ sum_of c program from to (λ m. total (size c) (held_at held s m))
    pub small : (s : ℕ) → s < 6 → slice_index d.sums s ≤ (to - from) * (2 ^ 32 - 1)
    pub maxima : (s : ℕ) → s < c.stages
        → slice_index d.maxima s
        ≡ most_of c program from to (λ m. greatest (size c) (held_at held s m))
    pub full : (s : ℕ) → s < c.stages
        → slice_index d.full s ≡ sum_of c program from to (λ m. total (size c) (full_at c held s m))
    pub full_small : (s : ℕ) → s < 6 → slice_index d.full s ≤ (to - from) * (2 ^ 32 - 1)

  -- a window holds its numbers
  pub record IsKept (w : Window) : Type 0 where
    pub events : AreEventSums w.events
    pub latencies : AreLatencies w.latencies
    pub elements : AreElementSums w.elements
    pub inputs : IsSum (λ m. total (size c) (waiting_in m)) w.inputs
    pub outputs : IsSum (λ m. total (size c) (waiting_out m)) w.outputs
    pub requests : AreDepths Request w.requests
    pub replies : AreDepths Reply w.replies
    pub records : AreDepths Record w.records

-- what the stages hold of a kind in one state of a machine has come to these
module _ (c : Settings) (m : Machine) (held : Held) (old new : Depths) where
  pub record AreWithState : Type 0 where
    pub sums : (s : ℕ) → s < c.stages
        → slice_index new.sums s ≡ slice_index old.sums s + total (size c) (held_at held s m)
    pub small : (s : ℕ) → s < 6
        → slice_index new.sums s ≤ slice_index old.sums s + (2 ^ 32 - 1)
    pub maxima : (s : ℕ) → s < c.stages
        → slice_index new.maxima s
        ≡ max (slice_index old.maxima s) (greatest (size c) (held_at held s m))
    pub full : (s : ℕ) → s < c.stages
        → slice_index new.full s ≡ slice_index old.full s + total (size c) (full_at c held s m)
    pub full_small : (s : ℕ) → s < 6
        → slice_index new.full s ≤ slice_index old.full s + (2 ^ 32 - 1)

-- the machine is as after cycle n, whose number counts from 0
abbrev pub IsAfterCycle : ℕ → BlocksState → Type 0
IsAfterCycle n b = b.machine ≡ after b.config b.program (n + 1)
