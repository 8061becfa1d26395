use Rattle.std.proofs.Common.{◌≡◌, drop}
use Rattle.toml.specs.View.{items_view}
use Rattle.ultra_settings.specs.JobsText.{all_paths, paths_in}
use Rattle.ultra_settings.proofs.Files.{after}
use Rattle.ultra_settings.proofs.jobs.paths_in.Given as goal

abbrev pub invariant-loop-value : goal.invariant-loop-value
invariant-loop-value l = paths_in (items_view l.array) ≡ after (all_paths l.jobs.items) (paths_in (items_view (drop l.value-index l.array)))
