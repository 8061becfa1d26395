-- which settings are accepted: this project's profile
use Rattle.std.specs.Prelude.{◌≢◌, ℕ, ◌^◌, ◌<◌, ◌≤◌, All, AllPairs}
use Rattle.ultra_model.specs.{Machine.Settings, Ranges.AreInRange, declared.config.TheConstants.MOST_CYCLES}

-- the machine's settings are in their ranges and cycles are 1 to 1,000,000; of the initial cells
-- each is given a word, and none is given two
pub record IsValid (s : Settings) : Type 0 where
  pub range : AreInRange s
  pub some_cycles : 1 ≤ s.cycles
  pub most_cycles : s.cycles ≤ MOST_CYCLES
  pub words : All (λ (i : ℕ × ℕ). i.1 < 2 ^ 32) s.initial
  pub different : AllPairs (λ (i j : ℕ × ℕ). i.0 ≢ j.0) s.initial
