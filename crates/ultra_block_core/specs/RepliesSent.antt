-- the half of a cycle in which replies leave switches and modules
use Rattle.std.specs.Prelude.{ℕ, List, [], Some, None, slice_set}
use Rattle.ultra_block_core.specs.Prelude.{without_reply, link_number, where_room, replies_leaving, without_replies, of_unit, put_on, put_on_both, places_of}
pub use Rattle.ultra_topology.specs.Ways.{reply_targets, has_reply_way, reply_ways, has_way_from_module}
use Rattle.ultra_block_core.specs.BlockState.{BlockState, own_switch, own_module}

-- `closed` are the switches without room for replies
module _ (closed : List ℕ) where
  -- ---- from switch k of stage s, which has number n
  abbrev pub switch_sends_replies : ℕ → ℕ → ℕ → BlockState → BlockState
  switch_sends_replies n s k b = elim (own_switch b.switches n) [
    | None ↦ b
    | Some w ↦
        let out = replies_leaving (reply_ways closed b.stages s k) w in
        record b {
          switches = slice_set b.switches n (Some (without_replies w out));
          replies = put_on_both b.replies (places_of b.stages s k) out;
        }
  ]

  -- ---- from module m
  abbrev pub module_sends_reply : ℕ → BlockState → BlockState
  module_sends_reply m b = elim (own_module b.modules m) [
    | None ↦ b
    | Some memory_module ↦
        let out = where_room (has_way_from_module closed b.stages m) memory_module.out in
        record b {
          modules = slice_set b.modules m (Some (without_reply memory_module out));
          replies = put_on b.replies (link_number b.stages b.stages m) out;
        }
  ]

  -- ---- from the unit with number n
  abbrev pub sends_replies : ℕ → BlockState → BlockState
  sends_replies n b =
      of_unit b.stages (λ s k. switch_sends_replies n s k b) (λ m. module_sends_reply m b) (λ p. b)
      b n

-- what a cycle begins with: nothing has happened in it
abbrev pub without_events : BlockState → BlockState
without_events b = record b { events = []; stops = [] }
