use Rattle.std.proofs.Common.{◌≡◌, ℕ, ◌<◌, [], length, slice_index_or, All}
use Rattle.ultra_crew.specs.Tasks.{HasRoom}
use Rattle.ultra_crew.proofs.teams.empty_teams.Given as goal

abbrev pub invariant-loop : goal.invariant-loop
invariant-loop l = record {
  count : length l.teams.items ≡ l.counter;
  empty : (w : ℕ) (d : _) → w < l.counter → (slice_index_or l.teams.items w d).items ≡ [];
  room : All (HasRoom l.room) l.teams.items;
}
