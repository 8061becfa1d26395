use Rattle.ultra_colib.proofs.Barrier.{kept}
use Rattle.ultra_colib.proofs.laws.barrier_law.Goals as goal

pub returns : goal.returns
returns c = record { kept = kept }
