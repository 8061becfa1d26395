use Rattle.std.proofs.Common.{◌≡◌, length}
use Rattle.ultra_crew.specs.Tasks.{AreTeams}
use Rattle.ultra_crew.proofs.teams.deal_to_teams.Given as goal

abbrev pub invariant-loop-block : goal.invariant-loop-block
invariant-loop-block l = record {
  len : length l.teams.items ≡ l.workers;
  number : l.number ≡ length l.yielded;
  each : AreTeams l.workers l.teams.items l.yielded;
}
