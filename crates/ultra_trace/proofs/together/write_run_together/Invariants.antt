use Rattle.ultra_crew.specs.ExpectedResults.{expected_results_of}
use Rattle.ultra_trace.proofs.together.write_run_together.Given as goal

abbrev pub ghosts-write_by_workers : goal.ghosts-write_by_workers
ghosts-write_by_workers g a = record { results = expected_results_of a.workers a.blocks; program = a.blocks.program }
