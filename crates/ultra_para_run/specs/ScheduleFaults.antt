-- why a text isn't read as a schedule
use Rattle.std.specs.Prelude.{ℕ, List}
use Rattle.ultra_para_run.specs.{declared.reading.ScheduleFault.{ScheduleFault, TheVariants.{NoMemory, BadPe}}, ScheduleText.IsFirstBadPe}

abbrev pub ExplainsScheduleFault : ℕ → List ℕ → ScheduleFault → Type 0
ExplainsScheduleFault size text NoMemory = Unit {0}
ExplainsScheduleFault size text (BadPe line) = IsFirstBadPe size text line
