-- how often a text in memory has failed; this project's profile
use Rattle.std.specs.Prelude.{ℕ, ◌+◌}
use Rattle.ultra_sweep_command.specs.declared.text.Refusals.{Refusals, TheVariants.{None, Another'}}

abbrev pub refusal_count : Refusals → ℕ
refusal_count None = 0
refusal_count (Another' m before) = refusal_count before + 1
