-- What is empty where a unit of a machine holds nothing, for those who skip it.
use Rattle.std.proofs.Common.{◌≡◌, ℕ, ◌+◌, ◌*◌, ◌-◌, ◌^◌, ◌<◌, [], false, None, ◌∙◌, arith}
use Rattle.ultra_partition.proofs.Common.{common_steps, lane_at, replies_at, module_at, element_at, switch_number, module_number, element_number, Held, at_number, number_small, holds, stage_holds, Machine, at_switch}
use Rattle.ultra_block_core.specs.declared.held.Held.TheVariants.{Reply, Request, Record}

module _ (d : ℕ) (m : Machine) where
  -- ---- switch k of stage s
  module _ (s k : ℕ) (hs : s < d) (hk : k < 2 ^ (d - 1)) where
    switch_holds : (held : Held) → holds d m held (switch_number d s k) ≡ stage_holds m held s k
    switch_holds held =
        at_switch d (stage_holds m held) _ _ false (switch_number d s k) (number_small d s k hs hk) ∙ at_number d (λ s k. stage_holds m held s k) s k hk

    pub no_replies : holds d m Reply (switch_number d s k) ≡ false → (replies_at m s (2 * k) ≡ []) × (replies_at m s (2 * k + 1) ≡ [])
    no_replies h = let it = switch_holds Reply in grind (arith, common_steps)

    pub no_requests : holds d m Request (switch_number d s k) ≡ false → ((lane_at m s (2 * k)).queue ≡ []) × ((lane_at m s (2 * k + 1)).queue ≡ [])
    no_requests h = let it = switch_holds Request in grind (arith, common_steps)

    pub no_records : holds d m Record (switch_number d s k) ≡ false → ((lane_at m s (2 * k)).records ≡ []) × ((lane_at m s (2 * k + 1)).records ≡ [])
    no_records h = let it = switch_holds Record in grind (arith, common_steps)

  -- ---- module j
  pub no_reply : (j : ℕ) → j < 2 ^ d → holds d m Reply (module_number d j) ≡ false → (module_at m j).out ≡ None
  no_reply j hj h = grind arith

  pub no_request : (j : ℕ) → j < 2 ^ d → holds d m Request (module_number d j) ≡ false → (module_at m j).inp ≡ None
  no_request j hj h = grind arith

  -- ---- processing element p
  pub none_pending : (p : ℕ) → p < 2 ^ d → holds d m Request (element_number d p) ≡ false → (element_at m p).interface.pending ≡ []
  none_pending p hp h = grind (arith, common_steps)
