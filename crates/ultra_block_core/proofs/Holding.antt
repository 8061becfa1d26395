-- What the sets of a block say of what a unit may hold is true of each number.
use Rattle.std.proofs.Common.{◌≡◌, ℕ, ◌<◌, refl}
use Rattle.ultra_block_core.proofs.Common.{switch_count, of_unit, stage_of, index_of, unit_of_switch}

pub at_switch : {X : Type 0} (d : ℕ) (switch : ℕ → ℕ → X) (memory_module element : ℕ → X) (x : X) (n : ℕ) → n < switch_count d → of_unit d switch memory_module element x n ≡ switch (stage_of d n) (index_of d n)
at_switch d switch memory_module element x n h = rw (of_unit, unit_of_switch d n h) refl
