use Rattle.ultra_cycle_law.proofs.Phases.{cycle_law}
use Rattle.ultra_cycle_law.proofs.cycle_law.Goals as goal

pub returns : goal.returns
returns c = record { made = cycle_law }
