-- how much happens in a cycle at most
use Rattle.std.specs.Prelude.{ℕ, ◌+◌, ◌≤◌, List, length}
use Rattle.ultra_isa.specs.declared.Instr.{Instr}
use Rattle.ultra_model.specs.{Machine.Settings, Phases.after}

-- cycle n has at most 960 events: 64 deliveries, servings and issues each, and in each of 6 stages
-- 2 combinations at each of 64 positions. At most 64 processing elements fault in it
pub record HasFewEvents (c : Settings) (program : List Instr) (n : ℕ) : Type 0 where
  pub events : length (after c program (n + 1)).events ≤ 960
  pub stops : length (after c program (n + 1)).stops ≤ 64
