use Rattle.std.proofs.Common.{◌≡◌}
use Rattle.ultra_crew.specs.ExpectedResults.{later}
use Rattle.ultra_crew.proofs.crew.cycles_alone.Given as goal

abbrev pub invariant-loop : goal.invariant-loop
invariant-loop l = l.blocks ≡ later l.counter l.initial.blocks
