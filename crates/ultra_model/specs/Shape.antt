-- how many parts of each kind a machine has
use Rattle.std.specs.Prelude.{◌≡◌, ℕ, ◌<◌, [], length, slice_index_or}
use Rattle.ultra_model.specs.Machine.{Settings, Machine, size, module_at}

-- a lane and a queue of replies for each stage and position, a module and a processing element for
-- each number, and in each module its cells
pub record HasShape (c : Settings) (m : Machine) : Type 0 where
  pub lane_rows : length m.lanes ≡ c.stages
  pub lanes : (s : ℕ) → s < c.stages → length (slice_index_or m.lanes s []) ≡ size c
  pub reply_rows : length m.replies ≡ c.stages
  pub replies : (s : ℕ) → s < c.stages → length (slice_index_or m.replies s []) ≡ size c
  pub modules : length m.modules ≡ size c
  pub elements : length m.elements ≡ size c
  pub cells : (k : ℕ) → k < size c → length (module_at m k).cells ≡ c.cells
