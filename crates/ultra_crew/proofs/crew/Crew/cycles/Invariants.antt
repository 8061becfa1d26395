use Rattle.ultra_crew.specs.{Tasks.busy_workers, ExpectedResults.expected_results_of}
use Rattle.ultra_crew.proofs.crew.Crew.cycles.Given as goal

abbrev pub ghosts-cycles_together : goal.ghosts-cycles_together
ghosts-cycles_together g a = record { results = expected_results_of (busy_workers a.workers a.blocks.count) a.blocks; program = a.blocks.program }
