use Rattle.std.proofs.Common.{◌≡◌, ◌≤◌, length, take}
use Rattle.std.specs.Prelude.{vec_capacity}
use Rattle.ultra_settings.specs.JobsText.{all_paths}
use Rattle.ultra_sweep_command.specs.Jobs.{GaveJobs}
use Rattle.ultra_sweep_command.proofs.listing.read_jobs.Given as goal

abbrev pub invariant-loop-settings : goal.invariant-loop-settings
invariant-loop-settings g l = record {
  gave : GaveJobs (all_paths (take l.settings-index l.list)) (g.F.Source.files l.initial.source) (g.F.Source.files l.source) l.jobs.items;
  still : g.F.Source.failures l.source ≡ g.F.Source.failures l.initial.source;
  count : length l.jobs.items ≡ l.settings-index;
  room : length l.list ≤ vec_capacity l.jobs;
}
