-- In each half a unit has at most two events, so there is memory for all events of a cycle.
use Rattle.std.proofs.Common.{ℕ, zero, suc, ◌*◌, ◌≤◌, List, Option, length, length-append, refl, subst, arith}
use Rattle.ultra_block_core.proofs.Common.{Request, Switch, Ports, coming_to, first_of, lane_with, ports, second_of, combinations_of, all_in_order}
use Rattle.ultra_block_core.proofs.Once.{entries_before}

pub few_entries : {T E : Type 0} (entries : ℕ → T → List E) (t : T) (most : ℕ) → ((n : ℕ) → length (entries n t) ≤ most) → (m : ℕ) → length (entries_before entries m t) ≤ m * most
unfolding entries_before
few_entries entries t most few zero = omega arith
few_entries entries t most few (suc n) = omega (arith, few_entries entries t most few n, few n, length-append (entries_before entries n t) (entries n t))

-- a switch makes at most two combinations in a cycle
pub two_combine : (d s k n : ℕ) (w : Switch) (incoming : Ports (Option Request)) → length (combinations_of d s k n w incoming) ≤ 2
two_combine d s k n w incoming =
    let lanes = ports (lane_with w.to_mm.zero (coming_to d s 0 (first_of n incoming))) (lane_with w.to_mm.one (coming_to d s 1 (first_of n incoming))) in
    subst (λ es. length es ≤ 2) (all_in_order d s k w (first_of n incoming) (second_of n incoming) lanes refl refl) (grind arith)
