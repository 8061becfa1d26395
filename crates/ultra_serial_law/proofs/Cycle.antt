-- the hot requests go on by a stage in each cycle
use Rattle.std.proofs.Common.{◌≡◌, ℕ, zero, suc, ◌+◌, ◌<◌, ◌≤◌, List, refl, arith, ◌∙◌, add-one}
use Rattle.ultra_msg.specs.declared.Request.{Request}
use Rattle.ultra_isa.specs.declared.Instr.{Instr}
use Rattle.ultra_model.specs.{Machine.{Settings, Machine, start}, Ranges.AreInRange}
use Rattle.ultra_model.specs.Phases.{reply_phase, memory_phase, request_phase, processor_phase, cycle, after}
use Rattle.ultra_serial_law.proofs.{Calm.away_processed, Onward.hot_requests_set_out, Moving.hot_requests_move, Module.{hot_request_enters, inside_replied, hot_request_is_served}, Silence.{set_replied, set_acted, stage_replied, stage_acted, stage_processed}}
use Rattle.ultra_serial_law.proofs.Home.{served_comes, returned_comes, returned_acted, returned_moved, returned_processed, served_moved, served_processed}
use Rattle.ultra_serial_law.proofs.Stages.{IsAsked, IsInside, IsServed, IsReturned, IsSet, IsAtStage}

module _ (c : Settings) (program : List Instr) where
  same_cycles : (m : Machine) → (memory_phase c (reply_phase c m)).cycles ≡ m.cycles
  unfolding reply_phase memory_phase
  same_cycles m = refl

  one_more : (m : Machine) → (cycle c program m).cycles ≡ m.cycles + 1
  unfolding cycle reply_phase memory_phase request_phase processor_phase
  one_more m = refl

  pub after_next : (n : ℕ) → after c program (suc n) ≡ cycle c program (after c program n)
  unfolding after
  after_next n = refl

  pub cycles_after : (n : ℕ) → (after c program n).cycles ≡ n
  unfolding after start
  cycles_after zero = refl
  cycles_after (suc n) = one_more (after c program n) ∙ rw (cycles_after n, add-one) refl

  module _ (range : AreInRange c) (a n : ℕ) (asked : ℕ → Request) (each : IsAsked c a asked) (some_waits : 1 ≤ c.wait_places) (m : Machine) where
    abbrev Inside : Machine → Type 0
    Inside k = IsInside c a n asked k

    abbrev Served : Machine → Type 0
    Served k = IsServed c a n asked k

    abbrev Returned : ℕ → Machine → Type 0
    Returned s k = IsReturned c a n asked s k

    pub set_cycle : m.cycles ≡ n → IsSet c a n asked m → IsAtStage c a n asked 0 (cycle c program m)
    unfolding cycle
    set_cycle t w =
        let some = range.some_stages in
        let one = set_replied c range m a n asked w in
        let two = set_acted c range (reply_phase c m) a n asked one in
        let at : (memory_phase c (reply_phase c m)).cycles ≡ n + 0 = same_cycles m ∙ (t ∙ omega arith) in
        let three = hot_requests_set_out c range a n asked each some_waits (memory_phase c (reply_phase c m)) two at in
        stage_processed c range (request_phase c (memory_phase c (reply_phase c m))) a n asked 0 (omega arith) three program

    module _ (s : ℕ) where
      pub stage_cycle : suc s < c.stages → m.cycles ≡ n + suc s → IsAtStage c a n asked s m → IsAtStage c a n asked (suc s) (cycle c program m)
      unfolding cycle
      stage_cycle more t w =
          let one = stage_replied c range m a n asked s (omega arith) w in
          let two = stage_acted c range (reply_phase c m) a n asked s (omega arith) one in
          let three = hot_requests_move c range a n asked each some_waits s (memory_phase c (reply_phase c m)) two more (same_cycles m ∙ t) in
          stage_processed c range (request_phase c (memory_phase c (reply_phase c m))) a n asked (suc s) more three program

      inside_processed : (k : Machine) → Inside k → Inside (processor_phase c program k)
      unfolding processor_phase
      inside_processed k w = record {
        clear = record { queues = w.clear.queues; interfaces = away_processed c a program k w.clear.interfaces };
        left = record { records = w.left.records };
        inputs = w.inputs;
        outputs = w.outputs;
        replies = w.replies;
      }

      pub last_cycle : suc s ≡ c.stages → IsAtStage c a n asked s m → Inside (cycle c program m)
      unfolding cycle
      last_cycle last w =
          let one = stage_replied c range m a n asked s (omega (arith, last)) w in
          let two = stage_acted c range (reply_phase c m) a n asked s (omega (arith, last)) one in
          inside_processed (request_phase c (memory_phase c (reply_phase c m))) (hot_request_enters c range a n asked each some_waits s (memory_phase c (reply_phase c m)) last two)

      -- ---- and back
      returned_rest : s ≤ c.stages → Returned s (reply_phase c m) → Returned s (cycle c program m)
      unfolding cycle
      returned_rest within one =
          let two = returned_acted c range a n asked each some_waits s (reply_phase c m) one in
          let three = returned_moved c range a n asked each some_waits s (memory_phase c (reply_phase c m)) two within in
          returned_processed c range a n asked each some_waits s (request_phase c (memory_phase c (reply_phase c m))) three program

      pub served_cycle : suc s ≡ c.stages → Served m → Returned s (cycle c program m)
      served_cycle last w = returned_rest (omega (arith, last)) (served_comes c range a n asked each some_waits s m last w)

      pub returned_cycle : suc s < c.stages → Returned (suc s) m → Returned s (cycle c program m)
      returned_cycle more w = returned_rest (omega (arith, more)) (returned_comes c range a n asked each some_waits s m more w)

    pub inside_cycle : Inside m → Served (cycle c program m)
    unfolding cycle
    inside_cycle w =
        let one = inside_replied c range a n asked each some_waits m w in
        let two = hot_request_is_served c range a n asked each some_waits (reply_phase c m) one in
        let three = served_moved c range a n asked each some_waits (memory_phase c (reply_phase c m)) two in
        served_processed c range a n asked each some_waits (request_phase c (memory_phase c (reply_phase c m))) three program
