-- the six halves of a cycle of a machine of d stages, and what happens in each
use Rattle.std.specs.Prelude.{ℕ, ◌-◌, ◌*◌, ◌/◌, ◌%◌, ◌^◌, List, true, false, nat_lt, Option, None, slice_get}
pub use Rattle.ultra_msg.specs.declared.Event.{Event}
use Rattle.ultra_mem.specs.Serve.{serve, served}
pub use Rattle.ultra_isa.specs.declared.Instr.{Instr}
pub use Rattle.ultra_model.specs.declared.Stop.{Stop}
use Rattle.ultra_cycle_law.specs.Prelude.{places, present, joined, delivery, without_reply, serving, issue_event, stop_of, switch_count, map_ports, where_room, replies_leaving, without_replies, after_replies, request_heads, requests_leaving, without_requests, after_requests, combinations_of, element_of, delivered_to, element_without, step_at, executed}
use Rattle.ultra_topology.specs.{Units.{stage_of, index_of}, Marks.{reply_links, request_links, delivery_link, memory_link}, Ways.{reply_ways, request_ways, has_way_from_module, has_way_from_element}}
use Rattle.ultra_unit_steps.specs.Modules.{module_with}
use Rattle.ultra_cycle_law.specs.Frame.{Frame, at_port, Request, ReplyMessage, Ports, ProcessingElement}

abbrev pub pending_head : ProcessingElement → Option Request
pending_head e = slice_get e.interface.interface.pending 0

module _ (d : ℕ) where
  -- what there is of switch k of stage s, by the number of the switch
  abbrev pub at_switch : {X : Type 0} → (ℕ → ℕ → X) → ℕ → X
  at_switch g n = g (stage_of d n) (index_of d n)

  -- what leaves the switches and, behind them, the modules or the processing elements, by the
  -- number of the link
  abbrev pub on_links : {X : Type 0} → (ℕ → Ports X) → (ℕ → X) → ℕ → X
  on_links g h l = elim (nat_lt l (d * 2 ^ d)) [
    | true ↦ at_port (g (l / 2)) (l % 2)
    | false ↦ h (l - d * 2 ^ d)
  ]

  -- ---- replies
  -- the replies that leave switch n, and the one that leaves module m, where these switches have no
  -- room for replies
  module _ (closed : List ℕ) (f : Frame) where
    abbrev pub replies_from : ℕ → Ports (Option ReplyMessage)
    replies_from n = at_switch (λ s k. replies_leaving (reply_ways closed d s k) (f.switch n)) n

    abbrev pub reply_from : ℕ → Option ReplyMessage
    reply_from m = where_room (has_way_from_module closed d m) (f.memory_module m).out

    abbrev pub sends_replies : Frame
    sends_replies = record f {
      switch = λ n. without_replies (f.switch n) (replies_from n);
      memory_module = λ m. without_reply (f.memory_module m) (reply_from m);
      replies = λ l. on_links replies_from reply_from l;
    }

  -- the replies on the links to switch n, and the one on the link to processing element p
  abbrev pub replies_to : Frame → ℕ → Ports (Option ReplyMessage)
  replies_to f n = at_switch (λ s k. map_ports f.replies (reply_links d s k)) n

  abbrev pub reply_to : Frame → ℕ → Option ReplyMessage
  reply_to f p = f.replies (delivery_link d p)

  abbrev pub takes_replies : Frame → Frame
  takes_replies f = record f {
    switch = λ n. at_switch (λ s k. after_replies d s (f.switch n) (replies_to f n)) n;
    element = λ p. delivered_to (f.element p) (reply_to f p);
    replies = λ l. None;
  }

  unfoldable pub delivery_events : Frame → List Event
  delivery_events f = present (places (2 ^ d) (λ p. delivery (reply_to f p)))

  -- ---- memory
  abbrev pub serves : Frame → Frame
  serves f = record f { memory_module = λ m. serve (f.memory_module m) }

  unfoldable pub servings : Frame → List Event
  servings f = present (places (2 ^ d) (λ m. serving m (served (f.memory_module m))))

  -- ---- requests
  -- the requests that leave switch n, and the one that leaves processing element p, where these
  -- queues and modules have no room
  module _ (closed : Ports (List ℕ)) (f : Frame) where
    abbrev pub requests_from : ℕ → Ports (Option Request)
    requests_from n =
        at_switch (λ s k.
        requests_leaving (request_ways closed d s k (request_heads (f.switch n))) (f.switch n)) n

    abbrev pub request_from : ℕ → Option Request
    request_from p =
        let head = pending_head (f.element p) in
        where_room (has_way_from_element closed d p head) head

    abbrev pub sends_requests : Frame
    sends_requests = record f {
      switch = λ n. without_requests (f.switch n) (requests_from n);
      element = λ p. element_without (f.element p) (request_from p);
      requests = λ l. on_links requests_from request_from l;
    }

  -- the requests on the links to switch n, and the one on the link to module m
  abbrev pub requests_to : Frame → ℕ → Ports (Option Request)
  requests_to f n = at_switch (λ s k. map_ports f.requests (request_links d s k)) n

  abbrev pub request_to : Frame → ℕ → Option Request
  request_to f m = f.requests (memory_link d m)

  -- in cycle i
  abbrev pub takes_requests : ℕ → Frame → Frame
  takes_requests i f = record f {
    switch = λ n. at_switch (λ s k. after_requests d s i (f.switch n) (requests_to f n)) n;
    memory_module = λ m. module_with (2 ^ d) (f.memory_module m) (request_to f m);
    requests = λ l. None;
  }

  unfoldable pub combinations : ℕ → Frame → List Event
  combinations i f =
      joined (places (switch_count d)
      (λ n. at_switch (λ s k. combinations_of d s k i (f.switch n) (requests_to f n)) n))

  -- ---- processors
  abbrev pub executes : List Instr → Frame → Frame
  executes program f = record f { element = λ p. executed program (f.element p) }

  unfoldable pub issues : List Instr → Frame → List Event
  issues program f =
      present (places (2 ^ d)
      (λ p. issue_event (element_of (f.element p)) (step_at program (f.element p)).sent))

  unfoldable pub stops : List Instr → Frame → List Stop
  stops program f = present (places (2 ^ d) (λ p. stop_of p (step_at program (f.element p)).was))
