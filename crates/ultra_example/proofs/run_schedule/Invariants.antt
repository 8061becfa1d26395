use Rattle.std.proofs.Common.{◌≡◌}
use Rattle.ultra_example.proofs.run_schedule.Given as goal

-- the steps keep the settings, so each number below `size` is that of a processing element
abbrev pub invariant-loop : goal.invariant-loop
invariant-loop l = l.para.settings ≡ l.config
