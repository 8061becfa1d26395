use Rattle.ultra_serial_law.proofs.ExplicableRuns.{explaining}
use Rattle.ultra_serial_law.proofs.explaining_law.Goals as goal

pub returns : goal.returns
returns c = record { explained = explaining }
