-- the half of a cycle in which modules serve
use Rattle.std.specs.Prelude.{ℕ, [], ◌∷◌, ◌++◌, Some, None, slice_set}
use Rattle.ultra_block_core.specs.{Prelude.{serve, served, present, serving, of_unit}, BlockState.{BlockState, own_module}}

-- ---- module m
abbrev pub module_serves : ℕ → BlockState → BlockState
module_serves m b = elim (own_module b.modules m) [
  | None ↦ b
  | Some memory_module ↦ record b {
    modules = slice_set b.modules m (Some (serve memory_module));
    events = b.events ++ present (serving m (served memory_module) ∷ []);
  }
]

-- ---- the unit with number n
abbrev pub serves : ℕ → BlockState → BlockState
serves n b = of_unit b.stages (λ s k. b) (λ m. module_serves m b) (λ p. b) b n
