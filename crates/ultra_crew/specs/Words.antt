-- the rooms of a machine as the words that blocks note them in
use Rattle.std.specs.Prelude.{ℕ, zero, suc, ◌+◌, ◌-◌, ◌*◌, Bool, true, false, not, nat_lt, is_some, List}
use Rattle.ultra_model.specs.Places.{places}
use Rattle.ultra_topology.specs.Numbers.{switch_count}
use Rattle.ultra_unit_steps.specs.{Halves.ports, Switches.{has_reply_room, has_request_room}}
use Rattle.ultra_block_core.specs.declared.rooms.Rooms.{Rooms}
use Rattle.ultra_cycle_law.specs.Frame.{Frame}

-- n bits as a number: bit i is set where the test is true of i
unfoldable pub word_with_bits : ℕ → (ℕ → Bool) → ℕ
word_with_bits zero p = 0
word_with_bits (suc n) p =
    elim (p 0) [ true ↦ 1 | false ↦ 0 ] + 2 * word_with_bits n (λ i. p (suc i))

-- the set of the units that pass a test
unfoldable pub units_with : (ℕ → Bool) → List ℕ
units_with p = places 5 (λ k. word_with_bits 64 (λ i. p (k * 64 + i)))

-- the units of a machine of d stages that have no room; port zero has those of the modules too
module _ (d : ℕ) (f : Frame) where
  abbrev pub no_room_at_zero : ℕ → Bool
  no_room_at_zero n = elim (nat_lt n (switch_count d)) [
    | true ↦ not (has_request_room (f.switch n)).zero
    | false ↦ is_some (f.memory_module (n - switch_count d)).inp
  ]

  abbrev pub words_of_rooms : Rooms
  words_of_rooms = record {
    no_reply_room = units_with (λ n. not (has_reply_room (f.switch n)));
    no_request_room = ports
        (units_with no_room_at_zero)
        (units_with (λ n. not (has_request_room (f.switch n)).one));
  }
