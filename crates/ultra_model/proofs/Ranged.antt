-- settings that are valid are in the range of the machine
use Rattle.ultra_model.specs.{Machine.Settings, Valid.IsValid, Ranges.AreInRange}

pub in_range : (c : Settings) → IsValid c → AreInRange c
in_range c v = v.range
