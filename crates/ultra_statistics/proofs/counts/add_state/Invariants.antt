use Rattle.std.proofs.Common.{ℕ, ◌≡◌, ◌≤◌, ◌<◌, length}
use Rattle.ultra_model.specs.Machine.{size}
use Rattle.ultra_statistics.specs.Kept.{counts_of, with_state}
use Rattle.ultra_statistics.proofs.counts.add_state.Given as goal

abbrev pub invariant-loop-stage : goal.invariant-loop-stage
invariant-loop-stage g l =
    let c = l.blocks.config in
    let old = l.initial.counts in
    record {
      count : length l.counts ≡ 384;
      done : (s x : ℕ) → s < l.stage → x < size c → counts_of l.counts s x ≡ with_state c l.held l.at l.blocks.machine s x (counts_of old s x);
      rest : (s x : ℕ) → l.stage ≤ s → x < 64 → counts_of l.counts s x ≡ counts_of old s x;
    }
