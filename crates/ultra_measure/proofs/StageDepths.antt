-- what stages hold of a kind, over one cycle more
use Rattle.std.proofs.Common.{ℕ, List, [], ◌≡◌, ◌+◌, ◌-◌, ◌^◌, ◌*◌, ◌<◌, ◌≤◌, Bool, false, max, filter, suc, zero, refl, sym, ap, ◌∙◌, arith}
use Rattle.std.specs.List.{range_with_len}
use Rattle.ultra_isa.specs.declared.Instr.{Instr}
use Rattle.ultra_model.specs.{Machine.{Settings, Machine, size}, Phases.after, Balance.total}
use Rattle.ultra_topology.specs.{Numbers.switch_number, Set.{has_unit, HasNoneFrom}}
use Rattle.ultra_block.specs.{Held.Held, IsSetOf, Holding.holds}
use Rattle.ultra_measure.specs.{Held.{held_at, full_at}, Kept.{AreDepths, AreWithState}, Window.greatest, declared.depths.Depths.Depths}
use Rattle.ultra_measure.proofs.{Gathered.{added, topmost}, Emptiness.{stage_sum, stage_most, stage_full}, Keeping.{sum_goes_on, most_goes_on, small_goes_on}}

module _ (c : Settings) (program : List Instr) (from to : ℕ) (order : from ≤ to) (m : Machine) (run : m ≡ after c program (to + 1)) (held : Held) where
  pub depths_go_on : (old new : Depths) → c.stages ≤ 6 → AreDepths c program from to held old → AreWithState c m held old new → AreDepths c program from (to + 1) held new
  depths_go_on old new few are now = record {
    sums = λ s h.
        let below : s < 6 = omega (arith, h, few) in
        (sum_goes_on c program from to order m run (λ n. total (size c) (held_at held s n)) (record { is = are.sums s h; small = are.small s below }) refl (omega (arith, now.sums s h, now.small s below)) (now.sums s h)).is;
    small = λ s h. small_goes_on c program from to order m run (are.small s h) (now.small s h);
    maxima = λ s h. most_goes_on c program from to order m run (λ n. greatest (size c) (held_at held s n)) (are.maxima s h) refl (now.maxima s h);
    full = λ s h.
        let below : s < 6 = omega (arith, h, few) in
        (sum_goes_on c program from to order m run (λ n. total (size c) (full_at c held s n)) (record { is = are.full s h; small = are.full_small s below }) refl (omega (arith, now.full s h, now.full_small s below)) (now.full s h)).is;
    full_small = λ s h. small_goes_on c program from to order m run (are.full_small s h) (now.full_small s h);
  }

none_pass : (p : ℕ → Bool) (a n : ℕ) → ((k : ℕ) → p k ≡ false) → filter p (range_with_len a n) ≡ []
none_pass p a zero none = refl
none_pass p a (suc n) none = let here = none a in rw here (none_pass p (a + 1) n none)

-- where no unit holds anything of a kind, nothing changes
pub nothing_comes : (c : Settings) (m : Machine) (held : Held) (units : List ℕ) (even : 2 ^ c.stages ≡ 2 * 2 ^ (c.stages - 1)) → IsSetOf (holds c.stages m held) units → HasNoneFrom units 0 → (d : Depths) → AreWithState c m held d d
nothing_comes c m held units even are empty d =
    let no : (s : ℕ) → filter (λ k. has_unit units (switch_number c.stages s 0 + k)) (range_with_len 0 (2 ^ (c.stages - 1))) ≡ [] = λ s. none_pass (λ k. has_unit units (switch_number c.stages s 0 + k)) 0 (2 ^ (c.stages - 1)) (λ k. empty (switch_number c.stages s 0 + k) (omega arith)) in
    record {
      sums = λ s h.
          let at : ℕ → ℕ = held_at held s m in
          let none = ap (added (λ k. at (2 * k) + at (2 * k + 1))) (sym (no s)) ∙ stage_sum c.stages m s h even held units are in
          omega (arith, none);
      small = λ s h. omega arith;
      maxima = λ s h.
          let at : ℕ → ℕ = held_at held s m in
          let none = ap (topmost (λ k. max (at (2 * k)) (at (2 * k + 1)))) (sym (no s)) ∙ stage_most c.stages m s h even held units are in
          omega (arith, none);
      full = λ s h.
          let full : ℕ → ℕ = full_at c held s m in
          let none = ap (added (λ k. full (2 * k) + full (2 * k + 1))) (sym (no s)) ∙ stage_full c.stages m s h even held units are c in
          omega (arith, none);
      full_small = λ s h. omega arith;
    }
