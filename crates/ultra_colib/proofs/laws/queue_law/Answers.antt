use Rattle.ultra_colib.proofs.{Queue.kept, NoQueue.refused}
use Rattle.ultra_colib.proofs.laws.queue_law.Goals as goal

pub returns : goal.returns
returns c = record { kept = kept; needs_inserts = refused }
