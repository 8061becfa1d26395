-- what blocks note of their rooms
use Rattle.std.specs.Prelude.{◌≡◌, ℕ, List, ◌^◌, ◌<◌, not, ◌||◌, is_some, replicate}
use Rattle.ultra_block_core.specs.Prelude.{HasNoneFrom, Ports, has_unit, switch_count, module_number, has_reply_room, has_request_room}
use Rattle.ultra_block_core.specs.{Sets.if_here, BlockState.{BlockState, own_switch, own_module}, declared.rooms.Rooms.Rooms}

-- a block has noted which of its units have no room; of the others it leaves what was noted
pub record HasNoted (b : BlockState) (old now : Rooms) : Type 0 where
  pub replies : (n : ℕ) → n < switch_count b.stages
      → has_unit now.no_reply_room n
      ≡ (has_unit old.no_reply_room n
      || if_here (λ w. not (has_reply_room w)) (own_switch b.switches n))
  pub requests_zero : (n : ℕ) → n < switch_count b.stages
      → has_unit now.no_request_room.zero n
      ≡ (has_unit old.no_request_room.zero n
      || if_here (λ w. not (has_request_room w).zero) (own_switch b.switches n))
  pub requests_one : (n : ℕ) → n < switch_count b.stages
      → has_unit now.no_request_room.one n
      ≡ (has_unit old.no_request_room.one n
      || if_here (λ w. not (has_request_room w).one) (own_switch b.switches n))
  pub modules : (m : ℕ) → m < 2 ^ b.stages
      → has_unit now.no_request_room.zero (module_number b.stages m)
      ≡ (has_unit old.no_request_room.zero (module_number b.stages m)
      || if_here (λ memory_module. is_some memory_module.inp) (own_module b.modules m))

-- no unit from `from` on is closed to requests, by the memory-side port
abbrev pub AreOpenFrom : ℕ → Ports (List ℕ) → Type 0
AreOpenFrom from closed = HasNoneFrom closed.zero from × HasNoneFrom closed.one from

-- there is room everywhere
abbrev pub all_open : Rooms
all_open =
    record {
      no_reply_room = replicate 5 0;
      no_request_room = record { zero = replicate 5 0; one = replicate 5 0 };
    }

-- the rooms as a block notes them that is the first to do so
abbrev pub AreOwnRooms : BlockState → Rooms → Type 0
AreOwnRooms b rooms = HasNoted b all_open rooms
