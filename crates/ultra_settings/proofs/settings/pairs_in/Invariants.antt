use Rattle.std.proofs.Common.{◌≡◌, drop}
use Rattle.toml.specs.View.{items_view}
use Rattle.ultra_settings.specs.SettingsText.{pairs_in}
use Rattle.ultra_settings.proofs.Tables.{after}
use Rattle.ultra_settings.proofs.settings.pairs_in.Given as goal

abbrev pub invariant-loop-value : goal.invariant-loop-value
invariant-loop-value l = pairs_in (items_view l.array) ≡ after l.pairs.items (pairs_in (items_view (drop l.value-index l.array)))
