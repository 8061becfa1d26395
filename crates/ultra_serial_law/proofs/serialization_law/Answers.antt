use Rattle.ultra_serial_law.proofs.{Law.serialization, ExplicableRuns.explaining}
use Rattle.ultra_serial_law.proofs.serialization_law.Goals as goal

pub returns : goal.returns
returns c = record { chained = serialization; explained = explaining }
