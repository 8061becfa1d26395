-- numbers of one port of a switch, for the kinds of things that queues and wait buffers hold
use Rattle.std.specs.Prelude.{ℕ, ◌+◌, ◌-◌, List, Bool, false, not, ◌&&◌, ◌==◌, nat_le, length}
use Rattle.ultra_msg.specs.declared.Event.{Event, TheVariants.{Delivered, Served, Combined, Issued}}
use Rattle.ultra_isa.specs.declared.Instr.{Instr}
use Rattle.ultra_model.specs.{Machine.{Settings, Machine, replies_at}, Phases.{after, has_request_room}, Balance.{total, weight}}
use Rattle.ultra_block.specs.Held.{Held, TheVariants.{Reply, Request, Record}}
use Rattle.ultra_measure.specs.{Held.{held_at, full_waits}, Window.{sum_of, most_of, event_count}}
use Rattle.ultra_statistics.specs.Moves.{leaving_requests_at, leaving_replies_at}

-- how many messages leave it in the next cycle; no record leaves a wait buffer for another place
abbrev pub leaving_at : Settings → Held → ℕ → Machine → ℕ → ℕ
leaving_at c Request s m x = leaving_requests_at c m s x
leaving_at c Record s m x = 0
leaving_at c Reply s m x = leaving_replies_at c m s x

-- 1 where it lacks the free places without which nothing more comes: 2 in a queue toward memory, 1
-- in a wait buffer that has places, and 4 in a queue toward the processing elements
abbrev pub lacks_room : Settings → Held → ℕ → Machine → ℕ → ℕ
lacks_room c Request s m x = weight (not (has_request_room c m s x))
lacks_room c Record s m x = full_waits c s m x
lacks_room c Reply s m x = weight (not (nat_le (length (replies_at m s x) + 4) c.reply_places))

-- a combination at position x of stage s
abbrev pub is_combination_at : ℕ → ℕ → Event → Bool
is_combination_at s x (Delivered r) = false
is_combination_at s x (Served k r v now) = false
is_combination_at s x (Combined t y a old new first) = (t == s) && (y == x)
is_combination_at s x (Issued r n) = false

-- the window: the cycles from `from` on, below `to`
module _ (c : Settings) (program : List Instr) (from to : ℕ) where
  -- the sum of a number of the machine before each cycle
  abbrev pub sum_before : (Machine → ℕ) → ℕ
  sum_before f = total (to - from) (λ k. f (after c program (from + k)))

  -- how many messages left position x of stage s
  abbrev pub left_count : Held → ℕ → ℕ → ℕ
  left_count held s x = sum_before (λ m. leaving_at c held s m x)

  -- the sum and the most of what it held after each cycle, and after how many it lacked room
  abbrev pub held_sum : Held → ℕ → ℕ → ℕ
  held_sum held s x = sum_of c program from to (λ m. held_at held s m x)

  abbrev pub held_most : Held → ℕ → ℕ → ℕ
  held_most held s x = most_of c program from to (λ m. held_at held s m x)

  abbrev pub full_count : Held → ℕ → ℕ → ℕ
  full_count held s x = sum_of c program from to (λ m. lacks_room c held s m x)

  -- how many requests combined there
  abbrev pub combination_count : ℕ → ℕ → ℕ
  combination_count s x = event_count c program from to (is_combination_at s x)
