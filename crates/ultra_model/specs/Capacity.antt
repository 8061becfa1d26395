-- nothing holds more than its places
use Rattle.std.specs.Prelude.{ℕ, ◌<◌, ◌≤◌, length}
use Rattle.ultra_model.specs.Machine.{Settings, Machine, size, lane_at, replies_at, element_at}

-- the queues toward memory, the wait buffers, the queues toward the processing elements, and the
-- open cells of a processing element
pub record IsWithinCapacity (c : Settings) (m : Machine) : Type 0 where
  pub requests : (s x : ℕ) → s < c.stages → x < size c
      → length (lane_at m s x).queue ≤ c.request_places
  pub records : (s x : ℕ) → s < c.stages → x < size c
      → length (lane_at m s x).records ≤ c.wait_places
  pub replies : (s y : ℕ) → s < c.stages → y < size c → length (replies_at m s y) ≤ c.reply_places
  pub opened : (p : ℕ) → p < size c → length (element_at m p).interface.opened ≤ c.most_open
