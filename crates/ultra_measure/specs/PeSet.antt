-- sets of processing elements, as words of 64 bits
use Rattle.std.specs.Prelude.{◌≡◌, ◌≢◌, ℕ, ◌<◌, true}
use Rattle.ultra_topology.specs.Set.{has_bit}

-- p was taken out of a set
pub record IsTaken (p old new : ℕ) : Type 0 where
  pub within : p < 64
  pub there : has_bit old p ≡ true
  pub others : (k : ℕ) → k ≢ p → has_bit new k ≡ has_bit old k
  pub fewer : new < old
