-- the half of a cycle in which requests leave switches and processing elements
use Rattle.std.specs.Prelude.{ℕ, List, Option, Some, None, slice_get, slice_set}
use Rattle.ultra_block_core.specs.Prelude.{Ports, Request, link_number, where_room, first_request, requests_leaving, request_heads, without_requests, element_without, of_unit, put_on, put_on_both, places_of}
use Rattle.ultra_switch.specs.Queues.{SizedLane}
pub use Rattle.ultra_topology.specs.Ways.{request_targets, has_room_at, has_request_way, request_ways, has_way_from_element}
use Rattle.ultra_block_core.specs.BlockState.{BlockState, own_switch, own_element}

-- `closed` are, by the memory-side port, the switches whose queue there has no room for requests;
-- in `zero` also the modules whose register holds one
module _ (closed : Ports (List ℕ)) where
  -- what leaves the queue at memory-side position x of stage s: the first request, if there is a
  -- way
  abbrev pub request_leaving : ℕ → ℕ → ℕ → SizedLane → Option Request
  request_leaving d s x q =
      where_room (has_request_way closed d s x (first_request q)) (first_request q)

  -- ---- from switch k of stage s, which has number n
  abbrev pub switch_sends_requests : ℕ → ℕ → ℕ → BlockState → BlockState
  switch_sends_requests n s k b = elim (own_switch b.switches n) [
    | None ↦ b
    | Some w ↦
        let out = requests_leaving (request_ways closed b.stages s k (request_heads w)) w in
        record b {
          switches = slice_set b.switches n (Some (without_requests w out));
          requests = put_on_both b.requests (places_of b.stages s k) out;
        }
  ]

  -- ---- from processing element p
  abbrev pub element_sends_request : ℕ → BlockState → BlockState
  element_sends_request p b = elim (own_element b.elements p) [
    | None ↦ b
    | Some e ↦
        let head = slice_get e.interface.interface.pending 0 in
        let out = where_room (has_way_from_element closed b.stages p head) head in
        record b {
          elements = slice_set b.elements p (Some (element_without e out));
          requests = put_on b.requests (link_number b.stages b.stages p) out;
        }
  ]

  -- ---- from the unit with number n
  abbrev pub sends_requests : ℕ → BlockState → BlockState
  sends_requests n b =
      of_unit b.stages (λ s k. switch_sends_requests n s k b) (λ m. b)
      (λ p. element_sends_request p b) b n
