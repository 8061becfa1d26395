use Rattle.ultra_colib.proofs.ReadersWriters.{kept}
use Rattle.ultra_colib.proofs.laws.readers_writers_law.Goals as goal

pub returns : goal.returns
returns c = record { kept = kept }
