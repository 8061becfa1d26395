use Rattle.std.proofs.Common.{◌≡◌, ℕ, ◌<◌, List, length, take, drop, reverse, slice_index_or}
use Rattle.ultra_block_core.specs.BlockState.{BlockState}
use Rattle.ultra_crew.specs.Tasks.{AreTeams, tasks_from, team}
use Rattle.ultra_crew.proofs.teams.collect_from_teams.Given as goal

abbrev pub invariant-loop-number : goal.invariant-loop-number
invariant-loop-number l = record {
  many : length l.teams.items ≡ l.workers;
  gathered : (bs : List BlockState) → length bs ≡ l.fn.count → AreTeams (length l.fn.teams.items) l.fn.teams.items bs → l.blocks.items ≡ reverse (drop l.number bs);
  left : (bs : List BlockState) → length bs ≡ l.fn.count → AreTeams (length l.fn.teams.items) l.fn.teams.items bs
      → (w : ℕ) (d : _) → w < l.workers → (slice_index_or l.teams.items w d).items ≡ team l.workers w (tasks_from 0 (take l.number bs));
}
