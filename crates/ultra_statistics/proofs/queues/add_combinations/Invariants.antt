use Rattle.std.proofs.Common.{ℕ, ◌≡◌, ◌+◌, ◌*◌, ◌≤◌, ◌<◌, length, take}
use Rattle.std.specs.Prelude.{slice_index}
use Rattle.ultra_model.specs.Balance.{count}
use Rattle.ultra_statistics.specs.Ports.{is_combination_at}
use Rattle.ultra_statistics.proofs.queues.add_combinations.Given as goal

abbrev pub invariant-loop-event : goal.invariant-loop-event
invariant-loop-event l =
    let old = l.initial.counts in
    record {
      places : length l.counts ≡ 384;
      each : (s x : ℕ) → s < 6 → x < 64 → slice_index l.counts (s * 64 + x) ≡ slice_index old (s * 64 + x) + count (is_combination_at s x) (take l.event-index l.events);
      few : (k : ℕ) → k < 384 → slice_index l.counts k ≤ slice_index old k + l.event-index;
    }
