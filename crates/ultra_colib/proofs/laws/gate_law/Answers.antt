use Rattle.ultra_colib.proofs.Gate.{kept}
use Rattle.ultra_colib.proofs.laws.gate_law.Goals as goal

pub returns : goal.returns
returns c = record { kept = kept }
